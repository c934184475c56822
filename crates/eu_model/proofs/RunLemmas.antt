-- A run goes on by one step
use Rattle.std.proofs.Common.{◌≡◌, List, [], ◌∷◌, ◌++◌, refl, subst}
use Rattle.std.specs.Prelude.{None}
use Rattle.eu_model.specs.declared.commands.Entry.{Entry}
use Rattle.eu_model.specs.Server.{Server, ServerStep, server_fault, Run}

pub run_push : (old : Server) (es : List Entry) (mid : Server) (e : Entry) (new : Server) → Run old es mid → server_fault mid e.command e.moment ≡ None → ServerStep mid e.command e.moment e.reply new → Run old (es ++ (e ∷ [])) new
run_push old [] mid e new run none step = (new, subst (λ s. server_fault s e.command e.moment ≡ None) run none, subst (λ s. ServerStep s e.command e.moment e.reply new) run step, refl)
run_push old (d ∷ es) mid e new run none step = (run.0, run.1, run.2, run_push run.0 es mid e new run.3 none step)
