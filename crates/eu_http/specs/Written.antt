-- The bytes of a response, wherever they lie
use Rattle.std.specs.Prelude.{ℕ, List}
use Rattle.eu_http.specs.declared.text.Bytes.{Bytes}
use Rattle.eu_http.specs.declared.text.Bytes.TheVariants.{Ready, Made}

abbrev pub written : Bytes → List ℕ
written (Ready text) = text.now
written (Made buffer) = buffer.items
