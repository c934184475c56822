-- Runs one after another, and what their entries did
use Rattle.std.proofs.Common.{◌≡◌, ℕ, ◌+◌, List, [], ◌∷◌, ◌++◌, length, refl, sym, ap, ◌∙◌, subst, add_assoc, arith}
use Rattle.eu_model.specs.declared.commands.Entry.{Entry}
use Rattle.eu_model.specs.declared.tallies.Tally.{Tally}
use Rattle.eu_model.specs.Delta.{delta, nothing, plus, tally_of}
use Rattle.eu_model.specs.Server.{Runs, IsNumbered, Server, PlainServer, Run, plain_server}
use Rattle.eu_model.proofs.ServerLemmas.{servers_step_alike, servers_fault_alike}

-- ---- runs

-- one run after another
pub run_on : (s : Server) (es fs : List Entry) (mid new : Server) → Run s es mid → Run mid fs new → Run s (es ++ fs) new
run_on s [] fs mid new e run = subst (λ m. Run m fs new) e run
run_on s (e ∷ es) fs mid new (next, none, step, rest) run = (next, none, step, run_on next es fs mid new rest run)

-- a run may begin at any server of the same plain form
run_alike : (s s' : Server) (es : List Entry) (new : Server) → plain_server s ≡ plain_server s' → Run s es new
    → (new' : Server) × Run s' es new' × (plain_server new' ≡ plain_server new)
run_alike s s' [] new same run = (s', refl, sym same ∙ sym (ap plain_server run))
run_alike s s' (e ∷ es) new same (mid, none, step, rest) =
    let next = servers_step_alike s s' e.command e.moment e.reply mid same step in
    let others = run_alike mid next.0 es new (sym next.2) rest in
    (others.0, (next.0, sym (servers_fault_alike s s' e.command e.moment same) ∙ none, next.1, others.1), others.2)

pub runs_on : (p : PlainServer) (es : List Entry) (q : PlainServer) (fs : List Entry) (r : PlainServer) → Runs p es q → Runs q fs r → Runs p (es ++ fs) r
runs_on p es q fs r one two =
    let on = run_alike two.from one.to fs two.to (two.begins ∙ sym one.ends) two.run in
    record { from = one.from; to = on.0; begins = one.begins; ends = on.2 ∙ two.ends; run = run_on one.from es fs one.to on.0 one.run on.1 }

-- where a run has led, the run of no entry begins
pub runs_ended : (p : PlainServer) (es : List Entry) (q : PlainServer) → Runs p es q → Runs q [] q
runs_ended p es q runs = record { from = runs.to; to = runs.to; begins = runs.ends; ends = runs.ends; run = refl }

-- ---- numbers

pub numbered_on : (first : ℕ) (es fs : List Entry) → IsNumbered first es → IsNumbered (first + length es) fs → IsNumbered first (es ++ fs)
numbered_on first [] fs before after = subst (λ n. IsNumbered n fs) (omega (arith)) after
numbered_on first (e ∷ es) fs before after = (before.0, numbered_on (first + 1) es fs before.1 (subst (λ n. IsNumbered n fs) (omega (arith)) after))

-- ---- accounts

pub plus_assoc : (a b c : Tally) → plus (plus a b) c ≡ plus a (plus b c)
plus_assoc a b c = λ i. record {
  steps = add_assoc a.steps b.steps c.steps i;
  counted = add_assoc a.counted b.counted c.counted i;
  added = add_assoc a.added b.added c.added i;
  removed = add_assoc a.removed b.removed c.removed i;
}

pub plus_nothing : (a : Tally) → plus a nothing ≡ a
plus_nothing a =
    let steps : a.steps + 0 ≡ a.steps = omega arith in
    let counted : a.counted + 0 ≡ a.counted = omega arith in
    let added : a.added + 0 ≡ a.added = omega arith in
    let removed : a.removed + 0 ≡ a.removed = omega arith in
    λ i. record { steps = steps i; counted = counted i; added = added i; removed = removed i }

pub nothing_plus : (a : Tally) → plus nothing a ≡ a
nothing_plus a =
    let steps : 0 + a.steps ≡ a.steps = omega arith in
    let counted : 0 + a.counted ≡ a.counted = omega arith in
    let added : 0 + a.added ≡ a.added = omega arith in
    let removed : 0 + a.removed ≡ a.removed = omega arith in
    λ i. record { steps = steps i; counted = counted i; added = added i; removed = removed i }

pub tally_on : (es fs : List Entry) → tally_of (es ++ fs) ≡ plus (tally_of es) (tally_of fs)
tally_on [] fs = sym (nothing_plus (tally_of fs))
tally_on (e ∷ es) fs = ap (plus (delta e.command e.reply)) (tally_on es fs) ∙ sym (plus_assoc (delta e.command e.reply) (tally_of es) (tally_of fs))
