-- The equal replies of a command
use Rattle.std.specs.Prelude.{◌≡◌, ℕ, ◌-◌, Bool, List, [], replicate, Option, Some, None, if◌then◌else◌}
use Rattle.eu_model.specs.declared.commands.Reply.{Reply}
use Rattle.eu_model.specs.Owned.{owns_nothing}
use Rattle.eu_core.specs.declared.replies.Answered.{Answered}

-- one for the journal and one for who asked; one more, where they log it
abbrev pub replies_for : Bool → ℕ
replies_for logs = if logs then 3 else 2

abbrev pub for_log : Bool → Reply → Option Reply
for_log logs r = if logs then Some r else None

-- so many more of a reply that owns memory; none of one that is said again for nothing
abbrev pub equals_of : ℕ → Reply → List Reply
equals_of n r = if owns_nothing r then [] else replicate n r

-- those beside the journal's
abbrev pub others_of : Bool → Reply → List Reply
others_of logs r = equals_of (replies_for logs - 1) r

abbrev pub IsAnswered : Bool → Answered → Type 0
IsAnswered logs a = a.others.items ≡ others_of logs a.reply
