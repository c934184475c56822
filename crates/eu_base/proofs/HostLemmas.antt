-- The members of a host
use Rattle.std.proofs.Common.{◌≡◌, ℕ, ◌<◌, List, [], ◌∷◌, length, get_or, codes, unwrap_or, sym, ap, ◌∙◌, arith}
use Rattle.serde_json.specs.Data.{Data, null, string, object, Members, no_members, member}
use Rattle.serde_json.specs.Events.{members_len}
use Rattle.serde_json.specs.Find.{as_object}
use Rattle.serde_json.specs.View.{members_view}
use Rattle.serde_json.proofs.Views.{Entry, members_len-members_view}
use Rattle.eu_base.specs.Rest.{named_tree, rest_of_host}

abbrev members_in : Data → Members
members_in d = unwrap_or (as_object d) no_members

abbrev second : Members → List ℕ × Data
second no_members = ([], null)
second (member k d no_members) = ([], null)
second (member k d (member l e ms)) = (l, e)

second_entry : (es : List Entry) (e : Entry) → 1 < length es → e ≡ get_or es 1 e → named_tree e ≡ second (members_view es)
second_entry [] e long at = absurd (omega (arith, long))
second_entry (x ∷ []) e long at = absurd (omega (arith, long))
second_entry (x ∷ y ∷ es) e long at = ap named_tree at

-- the second of them is the host's name
pub name_of_host : (es : List Entry) (e : Entry) (host : List ℕ) → 1 < length es → e ≡ get_or es 1 e → object (members_view es) ≡ rest_of_host host
    → named_tree e ≡ (codes "hostName", string host)
name_of_host es e host long at is = second_entry es e long at ∙ ap (λ d. second (members_in d)) is

-- and they are three
pub three_of_host : (es : List Entry) (host : List ℕ) → object (members_view es) ≡ rest_of_host host → length es ≡ 3
three_of_host es host is = sym (members_len-members_view es) ∙ ap (λ d. members_len (members_in d)) is
