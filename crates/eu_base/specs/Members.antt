-- The members of an instance, however they are kept
use Rattle.std.specs.Prelude.{◌≡◌, ℕ, List, string_bytes, ⊤}
use Rattle.serde_json.specs.Data.{Data}
use Rattle.eu_base.specs.declared.rest.Members.{Members}
use Rattle.eu_base.specs.declared.rest.Members.TheVariants.{OfHost, AsText}
use Rattle.eu_base.specs.Rest.{rest_of_host}

-- those of a host of that name, or those of a text
abbrev pub tree_of_members : Members → Data
tree_of_members (OfHost host) = rest_of_host (string_bytes host)
tree_of_members (AsText text) = text.value

-- what is kept as a text isn't what a host of some name gives
abbrev pub IsApart : Members → Type 0
IsApart (OfHost host) = ⊤
IsApart (AsText text) = (host : List ℕ) → text.value ≡ rest_of_host host → ⊥
