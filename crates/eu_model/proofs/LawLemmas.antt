-- Nothing but the plain form decides what may happen next
use Rattle.std.proofs.Common.{◌≡◌, ℕ, List, refl, sym, ap, ◌∙◌}
use Rattle.std.specs.Prelude.{Option, Some, None}
use Rattle.eu_model.specs.declared.views.Query.TheVariants as asked
use Rattle.eu_model.specs.declared.views.View.TheVariants as seen
use Rattle.eu_model.specs.declared.commands.Command.TheVariants.{Register, Renew, Cancel, SetStatus, UnsetStatus, Adopt, EndMinute, Update, Reconfigure, Evict, Drain, Landed, Lost}
use Rattle.eu_model.specs.Machine.{Machine}
use Rattle.eu_model.specs.Plain.{plain}
use Rattle.eu_model.specs.View.{counts, listing, status_counts}
use Rattle.eu_model.specs.PlainSteps.{plain_join_fault, plain_renew_fault, plain_one, plain_listing}
use Rattle.eu_model.specs.Law.{StepsAlike, FaultsAlike, ViewsAlike}
use Rattle.eu_model.proofs.AnswerLemmas.{alike}
use Rattle.eu_model.proofs.ChangedLemmas.{join_fault-kept}
use Rattle.eu_model.proofs.RegisterLemmas.{register_is_kept}
use Rattle.eu_model.proofs.RenewLemmas.{renews, renew_is_kept, renew_fault-kept}
use Rattle.eu_model.proofs.CancelLemmas.{cancel_is_kept}
use Rattle.eu_model.proofs.StatusLemmas.{set_is_kept, unset_is_kept}
use Rattle.eu_model.proofs.AdoptLemmas.{adopt_is_kept}
use Rattle.eu_model.proofs.MinuteLemmas.{end_minute_is_kept, update_is_kept, reconfigure_is_kept}
use Rattle.eu_model.proofs.EvictLemmas.{evict_alike}
use Rattle.eu_model.proofs.OpeningLemmas.{plain_counts, counts-kept}
use Rattle.eu_model.proofs.SeenLemmas.{one-kept}
use Rattle.eu_model.proofs.ListingLemmas.{listing-kept}

pub steps_alike : StepsAlike
steps_alike s s' (Register n replicated) t reply new e step = alike _ _ _ _ (register_is_kept n replicated t) s s' reply new e step
steps_alike s s' (Renew k last_dirty overridden replicated) t reply new e step = alike _ _ _ _ (renew_is_kept k last_dirty overridden replicated t) s s' reply new e step
steps_alike s s' (Cancel k replicated) t reply new e step = alike _ _ _ _ (cancel_is_kept k) s s' reply new e step
steps_alike s s' (SetStatus k status last_dirty replicated) t reply new e step = alike _ _ _ _ (set_is_kept k status last_dirty t) s s' reply new e step
steps_alike s s' (UnsetStatus k suggested last_dirty replicated) t reply new e step = alike _ _ _ _ (unset_is_kept k suggested last_dirty t) s s' reply new e step
steps_alike s s' (Adopt n) t reply new e step = alike _ _ _ _ (adopt_is_kept n t) s s' reply new e step
steps_alike s s' EndMinute t reply new e step = alike _ _ _ _ end_minute_is_kept s s' reply new e step
steps_alike s s' Update t reply new e step = alike _ _ _ _ update_is_kept s s' reply new e step
steps_alike s s' (Reconfigure config) t reply new e step = alike _ _ _ _ (reconfigure_is_kept config) s s' reply new e step
steps_alike s s' Evict t reply new e step = evict_alike s s' t reply new e step
steps_alike s s' (Drain peer) t reply new e step = absurd step
steps_alike s s' (Landed peer codes) t reply new e step = absurd step
steps_alike s s' (Lost peer) t reply new e step = absurd step

pub faults_alike : FaultsAlike
faults_alike s s' (Register n replicated) t e =
    join_fault-kept s n.key ∙ ap (λ p. plain_join_fault p n.key) e ∙ sym (join_fault-kept s' n.key)
faults_alike s s' (Renew k last_dirty overridden replicated) t e =
    renew_fault-kept k last_dirty overridden replicated t s
    ∙ ap (λ p. plain_renew_fault p (renews k last_dirty overridden replicated t p).counted) e
    ∙ sym (renew_fault-kept k last_dirty overridden replicated t s')
faults_alike s s' (Adopt n) t e = join_fault-kept s n.key ∙ ap (λ p. plain_join_fault p n.key) e ∙ sym (join_fault-kept s' n.key)
faults_alike s s' c t e = refl

listings_alike : (app : Option (List ℕ)) (s s' : Machine) → plain s ≡ plain s' → listing app s ≡ listing app s'
listings_alike app s s' e = listing-kept app s ∙ ap (plain_listing app) e ∙ sym (listing-kept app s')

counts_alike : (s s' : Machine) → plain s ≡ plain s' → counts s ≡ counts s'
counts_alike s s' e = counts-kept s ∙ ap plain_counts e ∙ sym (counts-kept s')

pub views_alike : ViewsAlike
views_alike s s' (asked.One k) t e = ap seen.One (one-kept s k t ∙ ap (λ p. plain_one p k t) e ∙ sym (one-kept s' k t))
views_alike s s' (asked.OfApp app) t e = ap seen.OfApp (listings_alike (Some app) s s' e)
views_alike s s' asked.All t e = ap seen.All (listings_alike None s s' e)
views_alike s s' asked.Counts t e = ap seen.Counts (counts_alike s s' e)
views_alike s s' asked.Page t e = λ i. seen.Page (counts_alike s s' e i) (status_counts (listings_alike None s s' e i))
