-- One adoption more, and what is known of a batch when it ends.
use Rattle.std.proofs.Common.{◌≡◌, ◌+◌, ◌⊎◌, inl, inr, ℕ, List, [], ◌∷◌, ◌++◌, length, Result, Ok, Err, ap, refl, sym, ◌∙◌, arith, subst, true, false, add-zero}
use Rattle.std.proofs.lemmas.Bool.{false≢true}
use Rattle.std.specs.Result.{is_ok}
use Rattle.eu_base.specs.declared.faults.Fault.{Fault}
use Rattle.eu_base.specs.declared.instances.Instance.{Instance}
use Rattle.eu_model.specs.declared.asks.Answer.{Answer}
use Rattle.eu_model.specs.declared.asks.Ask.{Ask}
use Rattle.eu_model.specs.declared.asks.Ask.TheVariants.{Do}
use Rattle.eu_model.specs.declared.commands.Command.TheVariants.{Adopt}
use Rattle.eu_json.specs.declared.batch_write.ItemAnswer.{ItemAnswer}
use Rattle.eu_base.specs.declared.tasks.Task.{Task}
use Rattle.eu_peer.specs.Turns.{accepted, all_newer, Adopts}
use Rattle.eu_model.proofs.ChainLemmas.{pairs_push}

pub accepted_push : (rs : List (Result Answer Fault)) (r : Result Answer Fault) → accepted (rs ++ r ∷ []) ≡ accepted rs + accepted (r ∷ [])
accepted_push [] (Ok a) = refl
accepted_push [] (Err f) = refl
accepted_push (Ok b ∷ rs) r = let e = accepted_push rs r in omega arith
accepted_push (Err f ∷ rs) r = accepted_push rs r

pub adopts_push :
    {D : Type 0} (asked : D → Ask → ℕ → Result Answer Fault → D → Type 0) (moment : ℕ) (old : D) (is : List Instance) (n : ℕ) (mid : D) (i : Instance) (r : Result Answer Fault) (new : D)
    → Adopts asked moment old is n mid → asked mid (Do (Adopt i)) moment r new → Adopts asked moment old (is ++ i ∷ []) (n + accepted (r ∷ [])) new
adopts_push asked moment old is n mid i r new done here =
    (done.0 ++ r ∷ [], pairs_push _ old is done.0 mid i r new done.1 here, ap (λ (k : ℕ). k + accepted (r ∷ [])) done.2 ∙ sym (accepted_push done.0 r))

pub adopts_more :
    {D : Type 0} (asked : D → Ask → ℕ → Result Answer Fault → D → Type 0) (moment : ℕ) (old : D) (is : List Instance) (n : ℕ) (mid : D) (i : Instance) (r : Result Answer Fault) (new : D)
    → Adopts asked moment old is n mid → asked mid (Do (Adopt i)) moment r new → is_ok r ≡ true → Adopts asked moment old (is ++ i ∷ []) (n + 1) new
adopts_more asked moment old is n mid i (Ok a) new done here taken = adopts_push asked moment old is n mid i (Ok a) new done here
adopts_more asked moment old is n mid i (Err f) new done here taken = absurd (false≢true taken)

pub adopts_no_more :
    {D : Type 0} (asked : D → Ask → ℕ → Result Answer Fault → D → Type 0) (moment : ℕ) (old : D) (is : List Instance) (n : ℕ) (mid : D) (i : Instance) (r : Result Answer Fault) (new : D)
    → Adopts asked moment old is n mid → asked mid (Do (Adopt i)) moment r new → is_ok r ≡ false → Adopts asked moment old (is ++ i ∷ []) n new
adopts_no_more asked moment old is n mid i (Ok a) new done here refused = absurd (false≢true (sym refused))
adopts_no_more asked moment old is n mid i (Err f) new done here refused =
    subst (λ (k : ℕ). Adopts asked moment old (is ++ i ∷ []) k new) (add-zero n) (adopts_push asked moment old is n mid i (Err f) new done here)

-- where either has ended no answer says anything more
pub newer_ended : (ts : List Task) (answers : List ItemAnswer) → (length ts ≡ 0) ⊎ (length answers ≡ 0) → all_newer ts answers ≡ []
newer_ended [] answers h = refl
newer_ended (t ∷ ts) [] h = refl
newer_ended (t ∷ ts) (a ∷ others) (inl e) = absurd (omega arith)
newer_ended (t ∷ ts) (a ∷ others) (inr e) = absurd (omega arith)
