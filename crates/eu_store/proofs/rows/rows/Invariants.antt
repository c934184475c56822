use Rattle.std.proofs.Common.{◌≡◌, ◌++◌, map}
use Rattle.std.specs.Map.Iter.{deref_pair}
use Rattle.std.specs.Option.{option_copied}
use Rattle.std.specs.FinMap.Entries.{where_key}
use Rattle.eu_base.specs.Values.{key_cmp}
use Rattle.eu_model.specs.View.{is_of}
use Rattle.eu_store.proofs.rows.rows.Given as goal

-- the rows so far, and those among what is left
abbrev pub invariant-loop-key : goal.invariant-loop-key
invariant-loop-key l =
    map deref_pair l.rows.items ++ where_key key_cmp (is_of (option_copied l.app)) l.key-iterator ≡ where_key key_cmp (is_of (option_copied l.app)) l.initial.key-iterator
