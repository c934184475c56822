-- What an operator is told
use Rattle.std.specs.Prelude.{ℕ, ◌+◌, ◌-◌, ◌^◌, ◌==◌, ◌||◌, nat_le, nat_lt, Bool, false, true, min, if◌then◌else◌, Option, Some, None}
use Rattle.eu_accept.specs.declared.messages.Message.{Message}
use Rattle.eu_accept.specs.declared.messages.Message.TheVariants.{Evicted, Permitted, HeldBack, Refused}
use Rattle.eu_accept.specs.declared.messages.Told.{Told}
use Rattle.eu_gate.specs.declared.gate.News.{News}

-- of a pass: how many leases it evicted of those that were due, where there were any
abbrev pub pass_of : News → Option Message
pass_of news = if news.evicted == 0 then None else Some (Evicted news.evicted news.due)

-- of whether evictions are permitted, where they were before, or weren't: a change alone
abbrev pub change_to : Bool → Bool → News → Option Message
change_to false true news = Some (Permitted news.renewals news.threshold)
change_to true false news = Some (HeldBack news.renewals news.threshold)
change_to false false news = None
change_to true true news = None

abbrev pub change_of : Bool → News → Option Message
change_of was news = change_to was news.permitted news

-- nothing is to be told of refusals: there are no further ones, or the second since the last time isn't over
abbrev pub is_silent : Told → ℕ → ℕ → Bool
is_silent told refused now = nat_le refused told.refused || nat_lt now told.next

-- of so many refusals in all, at a time
abbrev pub refusals_of : Told → ℕ → ℕ → Option Message
refusals_of told refused now = if is_silent told refused now then None else Some (Refused (refused - told.refused))

abbrev pub refusals_told : Told → ℕ → ℕ → Told
refusals_told told refused now = if is_silent told refused now then told else record told { refused = refused; next = min (now + 1000) (2 ^ 64 - 1) }
