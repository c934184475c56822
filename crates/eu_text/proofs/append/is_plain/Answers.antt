use Rattle.std.proofs.Common.{rules, ◌≡◌, ◌+◌, ◌≤◌, [], ◌∷◌, ◌++◌, get_or, drop, sym, ap, ap₂, ◌∙◌, arith}
use Rattle.std.proofs.lemmas.List.{drop_more}
use Rattle.json.specs.Print.{escape, escape_byte}
use Rattle.json.proofs.Printed.Strings.{escape_byte_plain}
use Rattle.eu_text.proofs.append.is_plain.Goals as goal

pub loop-byte-preserved : goal.loop-byte-preserved
loop-byte-preserved c =
    let xs = c.args.text.now in
    let i = c.loop-byte.byte-index in
    let x = get_or xs i 0 in
    let here : drop i xs ≡ x ∷ drop (i + 1) xs = drop_more xs i 0 (omega arith) in
    let quote : x ≡ 34 → ⊥ = λ e. absurd (omega (arith, e)) in
    let slash : x ≡ 92 → ⊥ = λ e. absurd (omega (arith, e)) in
    let above : 32 ≤ x = omega arith in
    let plain : escape_byte x ≡ x ∷ [] = escape_byte_plain x quote slash above in
    λ rest. c.loop-byte.invariant (ap escape here ∙ ap₂ (◌++◌) plain rest ∙ sym here)
