-- What a step replaced leads back to what was before it
use Rattle.std.proofs.Common.{◌≡◌, ℕ, ap, sym, ◌∙◌}
use Rattle.std.specs.Prelude.{Option, Some, Ok}
use Rattle.std.specs.Option.{option_map}
use Rattle.std.specs.FinMap.{get}
use Rattle.eu_base.specs.declared.names.Key.{Key}
use Rattle.eu_base.specs.declared.settings.Config.{Config}
use Rattle.eu_base.specs.declared.statuses.Status.{Status}
use Rattle.eu_model.specs.declared.views.Listed.{Listed}
use Rattle.eu_model.specs.declared.commands.Command.{Command}
use Rattle.eu_model.specs.declared.commands.Command.TheVariants.{EndMinute, Update, Reconfigure}
use Rattle.eu_model.specs.declared.commands.Reply.{Reply}
use Rattle.eu_model.specs.Answers.{Answers}
use Rattle.eu_model.specs.Plain.{Plain}
use Rattle.eu_model.specs.Server.{key_of}
use Rattle.eu_model.proofs.DeterminedLemmas.{next_is}
use Rattle.eu_model.proofs.MinuteLemmas.{end_minute_is_kept, update_is_kept, reconfigure_is_kept}
use Rattle.eu_store.proofs.TableLemmas.{by_key, by_name}
use Rattle.eu_model.specs.Machine.{with_value}
use Rattle.eu_store.specs.Stored.{changed, rejoined, term_of}
use Rattle.eu_store.proofs.UndoLemmas.{value_undone}
use Rattle.eu_core.specs.declared.decision.Change.{Change}
use Rattle.eu_core.specs.declared.undo.LeaseBefore.{LeaseBefore}
use Rattle.eu_core.specs.declared.undo.RenewalBefore.{RenewalBefore}
use Rattle.eu_core.specs.declared.undo.Undo.TheVariants.{Renewal, Lease, Minute, Expected, Settings}
use Rattle.eu_core.specs.Decided.{counted, left, lease_left}
use Rattle.eu_core.specs.Undone.{lease_undone, renewal_undone, retimed, undone}
use Rattle.eu_core.proofs.RowLemmas.{changed_value, with_row-same}
use Rattle.eu_core.proofs.StepLemmas.{get_changed}

-- a lease whose instance is the same has its moments again
moments_back : (l now : Listed) → now.instance ≡ l.instance → retimed (term_of l) now ≡ l
moments_back l now same = ap (λ i. rejoined i.status i.overridden (term_of l) (record { instance = i; times = now.times })) same

-- a command on a lease
module _ (p : Plain) (k : Key) (x : Change) where
  -- its row, where that stays
  row_left : (row : Option Status) → row ≡ get p.overrides k.id → x.row ≡ row → (left p k x).overrides ≡ p.overrides
  row_left row is same = with_row-same p.overrides k.id x.row (sym is ∙ sym same)

  -- all but the moments stay
  pub renewal_left : (c : Command) (b : RenewalBefore) (l after : Listed) (row : Option Status) → key_of c ≡ Some k → get p.leases k ≡ Some l → row ≡ get p.overrides k.id
      → lease_left x.lease (Some l) ≡ Some after → after.instance ≡ l.instance → x.row ≡ row → x.expected ≡ p.expected → b.lease ≡ term_of l → b.rate ≡ counted p → undone c (Renewal b) (left p k x) ≡ p
  renewal_left c b l after row key held row_is leaves stays same expected lease_is rate_is =
      let f = retimed b.lease in
      let now = with_value p.leases k (lease_left x.lease (get p.leases k)) in
      let left_is : lease_left x.lease (get p.leases k) ≡ Some after = ap (lease_left x.lease) held ∙ leaves in
      let found : get now k ≡ Some after = get_changed p.leases k (lease_left x.lease (get p.leases k)) ∙ left_is in
      let back : f after ≡ l = ap (λ t. retimed t after) lease_is ∙ moments_back l after stays in
      let leases : changed f now k ≡ p.leases =
      changed_value f now k ∙ ap (with_value now k) (ap (option_map f) found ∙ ap Some back ∙ sym held) ∙ value_undone by_key p.leases k (lease_left x.lease (get p.leases k)) in
      let rows = row_left row row_is same in
      ap (λ o. renewal_undone o b (left p k x)) key
      ∙ (λ i. record p { leases = leases i; overrides = rows i; expected = expected i; last = (rate_is i).last; since = (rate_is i).since })

  -- whatever changes
  pub lease_left_undone : (c : Command) (b : LeaseBefore) (held : Option Listed) (row : Option Status) → key_of c ≡ Some k → held ≡ get p.leases k → row ≡ get p.overrides k.id
      → b.held ≡ held → b.row ≡ row → b.expected ≡ p.expected → b.rate ≡ counted p → undone c (Lease b) (left p k x) ≡ p
  lease_left_undone c b held row key held_is row_is b_held b_row b_expected b_rate =
      let lease = ap (with_value (left p k x).leases k) (b_held ∙ held_is) ∙ value_undone by_key p.leases k (lease_left x.lease (get p.leases k)) in
      let rows = ap (with_value (left p k x).overrides k.id) (b_row ∙ row_is) ∙ value_undone by_name p.overrides k.id x.row in
      ap (λ o. lease_undone o b (left p k x)) key
      ∙ (λ i. record p { leases = lease i; overrides = rows i; expected = b_expected i; last = (b_rate i).last; since = (b_rate i).since })

-- a command that is on no lease
module _ (t : ℕ) (p q : Plain) (r : Reply) where
  pub end_minute_undone : Answers p EndMinute t (Ok r) q → undone EndMinute (Minute (counted p)) q ≡ p
  end_minute_undone a = ap (undone EndMinute (Minute (counted p))) (next_is EndMinute t _ _ _ _ end_minute_is_kept (λ s s' x h. h) p q r a)

  pub update_undone : Answers p Update t (Ok r) q → undone Update (Expected p.expected) q ≡ p
  update_undone a = ap (undone Update (Expected p.expected)) (next_is Update t _ _ _ _ update_is_kept (λ s s' x h. h) p q r a)

  pub reconfigure_undone : (config : Config) → Answers p (Reconfigure config) t (Ok r) q → undone (Reconfigure config) (Settings p.config) q ≡ p
  reconfigure_undone config a =
      ap (undone (Reconfigure config) (Settings p.config)) (next_is (Reconfigure config) t _ _ _ _ (reconfigure_is_kept config) (λ s s' x h. h) p q r a)
