-- A list of entries with one more at its end, and the leases that a step adds and removes
use Rattle.std.proofs.Common.{◌≡◌, ℕ, ◌+◌, ◌≤◌, List, [], ◌∷◌, ◌++◌, length, refl, sym, ap, ◌∙◌, subst, true, false, arith}
use Rattle.std.specs.Prelude.{Bool, Ok}
use Rattle.std.specs.FinMap.{len}
use Rattle.eu_base.specs.Values.{key_cmp}
use Rattle.eu_model.specs.declared.commands.Command.{Command}
use Rattle.eu_model.specs.declared.commands.Command.TheVariants.{Register, Renew, Adopt, Drain, Landed, Lost}
use Rattle.eu_model.specs.declared.commands.Entry.{Entry}
use Rattle.eu_model.specs.declared.commands.Reply.{Reply}
use Rattle.eu_model.specs.declared.commands.Reply.TheVariants.{Registered, Done, NotFound, Stale, Conflict, Last, Expected, Evicted, Batch, Settled}
use Rattle.eu_model.specs.declared.tallies.Tally.{Tally}
use Rattle.eu_model.specs.Delta.{counted_by, added_by, removed_by, delta, plus, tally_of}
use Rattle.eu_model.specs.Machine.{Machine}
use Rattle.eu_model.specs.Plain.{listed}
use Rattle.eu_model.specs.Server.{Server, PlainServer, ServerStep, plain_server, Runs, IsNumbered}
use Rattle.eu_model.specs.Answers.{ServerAnswers, IsServerAnswer}
use Rattle.eu_model.specs.Step.{Step}
use Rattle.eu_model.proofs.HeldLemmas.{leases_are_accounted}
use Rattle.eu_model.proofs.MapLemmas.{len-map_values}
use Rattle.eu_model.proofs.RaiseLemmas.{raise}
use Rattle.eu_model.proofs.RunLemmas.{run_push}

tally_eq : (a b : Tally) → a.steps ≡ b.steps → a.counted ≡ b.counted → a.added ≡ b.added → a.removed ≡ b.removed → a ≡ b
tally_eq a b steps counted added removed i = record { steps = steps i; counted = counted i; added = added i; removed = removed i }

pub tally_push : (es : List Entry) (e : Entry) → tally_of (es ++ (e ∷ [])) ≡ plus (tally_of es) (delta e.command e.reply)
tally_push [] e = tally_eq _ _ refl (omega (arith)) (omega (arith)) (omega (arith))
tally_push (d ∷ es) e =
    let one = delta d.command d.reply in
    let more = delta e.command e.reply in
    ap (plus one) (tally_push es e)
    ∙ tally_eq (plus one (plus (tally_of es) more)) (plus (plus one (tally_of es)) more) (omega (arith)) (omega (arith)) (omega (arith)) (omega (arith))

pub numbered_push : (first : ℕ) (es : List Entry) (e : Entry) → IsNumbered first es → e.number ≡ first + length es → IsNumbered first (es ++ (e ∷ []))
numbered_push first [] e numbered is = (is ∙ omega (arith), tt)
numbered_push first (d ∷ es) e numbered is = (numbered.0, numbered_push (first + 1) es e numbered.1 (is ∙ omega (arith)))

pub runs_push : (p : PlainServer) (es : List Entry) (q : PlainServer) (e : Entry) (new : PlainServer)
    → Runs p es q → ServerAnswers q e.command e.moment (Ok e.reply) new → Runs p (es ++ (e ∷ [])) new
unfolding ServerAnswers IsServerAnswer
runs_push p es q e new runs answers =
    let step = answers runs.to runs.ends in
    record {
      from = runs.from;
      to = step.1.0;
      begins = runs.begins;
      ends = step.1.2;
      run = run_push runs.from es runs.to e step.1.0 runs.run step.0 step.1.1;
    }

pub counted_at_most_one : (c : Command) (r : Reply) → counted_by c r ≤ 1
counted_at_most_one (Renew k last_dirty overridden replicated) (Registered fresh) = omega (arith)
counted_at_most_one (Renew k last_dirty overridden replicated) Done = omega (arith)
counted_at_most_one (Renew k last_dirty overridden replicated) NotFound = omega (arith)
counted_at_most_one (Renew k last_dirty overridden replicated) Stale = omega (arith)
counted_at_most_one (Renew k last_dirty overridden replicated) (Conflict i) = omega (arith)
counted_at_most_one (Renew k last_dirty overridden replicated) (Last n) = omega (arith)
counted_at_most_one (Renew k last_dirty overridden replicated) (Expected n) = omega (arith)
counted_at_most_one (Renew k last_dirty overridden replicated) (Evicted victims) = omega (arith)
counted_at_most_one (Renew k last_dirty overridden replicated) (Batch tasks) = omega (arith)
counted_at_most_one (Renew k last_dirty overridden replicated) Settled = omega (arith)
counted_at_most_one c r = omega (arith)

joined_at_most_one : (c : Command) (fresh : Bool) → added_by c (Registered fresh) ≤ 1
joined_at_most_one (Register n replicated) true = omega (arith)
joined_at_most_one (Register n replicated) false = omega (arith)
joined_at_most_one (Adopt n) true = omega (arith)
joined_at_most_one (Adopt n) false = omega (arith)
joined_at_most_one c fresh = omega (arith)

pub added_at_most_one : (s : Machine) (c : Command) (t : ℕ) (r : Reply) (new : Machine) → Step s c t r new → added_by c r ≤ 1
added_at_most_one s (Register n replicated) t r new step = subst (λ r. added_by (Register n replicated) r ≤ 1) (sym step.0) (joined_at_most_one (Register n replicated) _)
added_at_most_one s (Adopt n) t r new step = subst (λ r. added_by (Adopt n) r ≤ 1) (sym step.0) (joined_at_most_one (Adopt n) _)
added_at_most_one s (Drain peer) t r new step = absurd step
added_at_most_one s (Landed peer codes) t r new step = absurd step
added_at_most_one s (Lost peer) t r new step = absurd step
added_at_most_one s c t r new step = omega (arith)

-- what a step of a server does to the leases
server_accounts : (s : Server) (c : Command) (t : ℕ) (r : Reply) (new : Server) → ServerStep s c t r new
    → (len new.machine.leases + removed_by c r ≡ len s.machine.leases + added_by c r) × (added_by c r ≤ 1)
server_accounts s (Drain peer) t r new step = (omega (arith, ap (λ x. len x.machine.leases) step.1.3), omega (arith))
server_accounts s (Landed peer codes) t r new step = (omega (arith, ap (λ x. len x.machine.leases) step.1.3), omega (arith))
server_accounts s (Lost peer) t r new step = (omega (arith, ap (λ x. len x.machine.leases) step.1.3), omega (arith))
server_accounts s (Register n replicated) t r new step = (leases_are_accounted s.machine (Register n replicated) t r new.machine step.0, added_at_most_one s.machine (Register n replicated) t r new.machine step.0)
server_accounts s (Adopt n) t r new step = (leases_are_accounted s.machine (Adopt n) t r new.machine step.0, added_at_most_one s.machine (Adopt n) t r new.machine step.0)
server_accounts s c t r new step = (leases_are_accounted s.machine c t r new.machine step.0, omega (arith))

-- each plain form is that of some server
pub raise_server : (p : PlainServer) → (s : Server) × (plain_server s ≡ p)
raise_server p =
    let from = raise p.registry in
    (record { machine = from.0; queues = p.queues }, λ i. record { registry = from.1 i; queues = p.queues })

-- what an answer does to the leases, seen as plain forms
pub answer_accounts : (p : PlainServer) (c : Command) (t : ℕ) (r : Reply) (new : PlainServer) → ServerAnswers p c t (Ok r) new
    → (len new.registry.leases + removed_by c r ≡ len p.registry.leases + added_by c r) × (added_by c r ≤ 1)
unfolding ServerAnswers IsServerAnswer
answer_accounts p c t r new answers =
    let from = raise_server p in
    let answer = answers from.0 from.1 in
    let to = answer.1.0 in
    let before = sym (len-map_values key_cmp listed from.0.machine.leases) ∙ ap (λ q. len q.registry.leases) from.1 in
    let after = sym (len-map_values key_cmp listed to.machine.leases) ∙ ap (λ q. len q.registry.leases) answer.1.2 in
    let accounts = server_accounts from.0 c t r to answer.1.1 in
    (omega (arith, accounts.0, before, after), accounts.1)
