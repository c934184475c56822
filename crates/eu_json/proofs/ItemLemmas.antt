-- Items that are read one after another
use Rattle.std.proofs.Common.{◌≡◌, ℕ, List, [], ◌∷◌, ◌++◌, Result, Ok, Err, refl, sym, ap, append_assoc}
use Rattle.serde_json.specs.Data.{Data, Items, item}
use Rattle.eu_base.specs.declared.faults.Fault.{Fault}
use Rattle.eu_model.specs.declared.commands.Command.{Command}
use Rattle.eu_json.specs.Batch.{of_item, of_items}
use Rattle.eu_base.specs.Gives.{◌>>=◌, result_map}

-- what was read before, and what is read of the rest
abbrev pub onto : List Command → Result (List Command) Fault → Result (List Command) Fault
onto done read = result_map (λ more. done ++ more) read

one_more : (done : List Command) (command : Command) (rest : Result (List Command) Fault) → onto done (rest >>= λ more. Ok (command ∷ more)) ≡ onto (done ++ command ∷ []) rest
one_more done command (Ok more) = ap Ok (sym (append_assoc done (command ∷ []) more))
one_more done command (Err f) = refl

pub item_read : (moment : ℕ) (done : List Command) (command : Command) (d : Data) (ds : Items) → of_item moment d ≡ Ok command → onto done (of_items moment (item d ds)) ≡ onto (done ++ command ∷ []) (of_items moment ds)
item_read moment done command d ds is = rw is (one_more done command (of_items moment ds))
