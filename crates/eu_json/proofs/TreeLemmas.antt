-- Trees whose numbers are all whole
use Rattle.std.proofs.Common.{◌≡◌, ℕ, false, List, Option, Some, None, Ordering, Less, Equal, Greater, refl}
use Rattle.std.specs.Ordering.{nat_cmp, match_ordering}
use Rattle.std.specs.Cmp.Lexicographic.{slice_cmp}
use Rattle.serde_json.specs.Data.{Data, Members, no_members, member, put}
use Rattle.serde_json.specs.Written.{has_float, members_have_float}
use Rattle.eu_base.specs.declared.instances.Instance.{Instance}
use Rattle.eu_model.specs.declared.views.Times.{Times}
use Rattle.eu_json.specs.Tree.{lease_tree}
use Rattle.std.proofs.lemmas.Bool.{or_parts}

put_at : (o : Ordering) (k l : List ℕ) (d e : Data) (ms rest : Members) → has_float d ≡ false → has_float e ≡ false → members_have_float ms ≡ false → members_have_float rest ≡ false
    → members_have_float (match_ordering o (member k d (member l e ms)) (member l d ms) (member l e rest)) ≡ false
put_at Less k l d e ms rest value here later more = rw (value, here, later) refl
put_at Equal k l d e ms rest value here later more = rw (value, later) refl
put_at Greater k l d e ms rest value here later more = rw (here, more) refl

pub whole_put : (k : List ℕ) (d : Data) (ms : Members) → members_have_float ms ≡ false → has_float d ≡ false → members_have_float (put k d ms) ≡ false
whole_put k d no_members whole value = rw value refl
whole_put k d (member l e ms) whole value =
    let parts = or_parts (has_float e) (members_have_float ms) whole in
    put_at (slice_cmp nat_cmp k l) k l d e ms (put k d ms) value parts.0 parts.1 (whole_put k d ms parts.1 value)

pub whole_lease : (i : Instance) (times : Option Times) → has_float (lease_tree i times) ≡ false
whole_lease i None = refl
whole_lease i (Some t) = refl
