-- How the connections of a server are counted
use Rattle.std.specs.Prelude.{ℕ, ◌+◌, ◌-◌, ◌^◌, ◌&&◌, Bool, true, false, not, nat_lt, if◌then◌else◌, min}
use Rattle.eu_accept.specs.declared.admission.Admission.{Admission}
use Rattle.eu_accept.specs.declared.admission.Entry.{Entry}
use Rattle.eu_accept.specs.declared.admission.Entry.TheVariants.{Admitted, Refused, Dropped}

-- one more, as far as 64 bits count
abbrev pub one_more : ℕ → ℕ
one_more n = min (n + 1) (2 ^ 64 - 1)

-- what becomes of a connection that comes, where `most` are to be open at most: it is admitted where fewer that were admitted are open, else refused where fewer than 64 that
-- were refused are, else dropped, as it is where no more are accepted
abbrev pub entry_of : ℕ → Admission → Entry
entry_of most a = if a.is_closed then Dropped else if nat_lt (a.here - a.refused_here) most then Admitted else (if nat_lt a.refused_here 64 then Refused else Dropped)

-- it is counted: one that is admitted has come, is one less that is still to be accepted, and is open; one that is refused is open, too; one that is dropped isn't
abbrev pub let_in : Entry → Admission → Admission
let_in Admitted a = record a { left = a.left - 1; came = one_more a.came; here = one_more a.here }
let_in Refused a = record a { refused = one_more a.refused; here = one_more a.here; refused_here = one_more a.refused_here }
let_in Dropped a = record a { refused = one_more a.refused }

-- one of an operator is let in where fewer than 64 of them are open, unless no more are accepted; it counts as nothing else
abbrev pub takes_operator : Admission → Bool
takes_operator a = not a.is_closed && nat_lt a.operators 64

abbrev pub let_in_operator : Admission → Admission
let_in_operator a = if takes_operator a then record a { operators = one_more a.operators } else a

-- one that was let in has left
abbrev pub let_out : Bool → Admission → Admission
let_out false a = record a { here = a.here - 1 }
let_out true a = record a { here = a.here - 1; refused_here = a.refused_here - 1 }

-- a loop has ended
abbrev pub loop_ended : Admission → Admission
loop_ended a = record a { loops = a.loops - 1 }
