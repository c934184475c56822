-- The bytes of a name's text, whichever way it is kept
use Rattle.std.specs.Prelude.{ℕ, List, string_bytes}
use Rattle.eu_base.specs.declared.names.Text.{Text}
use Rattle.eu_base.specs.declared.names.Text.TheVariants.{Short, Long}

abbrev pub bytes_of : Text → List ℕ
bytes_of (Short text) = text.bytes
bytes_of (Long text) = string_bytes text
