-- What a server ends by, once it is known whether accepting a connection has failed
use Rattle.std.proofs.Common.{◌≡◌, ◌⊎◌, Bool, true, false, Result, Ok, Err, IfOk, IfErr, if◌then◌else◌, refl, inl, inr}
use Rattle.eu_base.specs.declared.faults.Fault.{Fault}
use Rattle.eu_base.specs.declared.faults.Fault.TheVariants.{Read}
use Rattle.eu_server.specs.Ends.{IsClose, IsEnd, IsStart}
use Rattle.eu_server.specs.declared.serve.Finished.{Finished}

-- what is so of the outcome is so of what is given
pub judged : (P : Finished → Type 0) (failed : Bool) (outcome result : Result Finished Fault)
    → IfErr outcome (λ f. result ≡ Err f)
    → IfOk outcome (λ o. result ≡ (if failed then Err Read else Ok o))
    → IfOk outcome P
    → IfOk result P
judged P failed (Err f) result other same p = rw other tt
judged P true (Ok o) result other same p = rw same tt
judged P false (Ok o) result other same p = rw same p

-- and its fault is one of a server's
pub ends : (failed : Bool) (outcome result : Result Finished Fault)
    → IfErr outcome (λ f. result ≡ Err f)
    → IfOk outcome (λ o. result ≡ (if failed then Err Read else Ok o))
    → IfErr outcome (λ f. IsStart f ⊎ IsClose f)
    → IfErr result IsEnd
ends failed (Err f) result other same (inl start) = rw other (inl start)
ends failed (Err f) result other same (inr close) = rw other (inr (inl close))
ends true (Ok o) result other same p = rw same (inr (inr refl))
ends false (Ok o) result other same p = rw same tt
