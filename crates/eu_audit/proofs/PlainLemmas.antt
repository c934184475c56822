-- Plain forms, and what is read of them
use Rattle.std.proofs.Common.{◌≡◌, suc, Bool, true, false, ◌&&◌, List, [], ◌∷◌, ◌++◌, length, refl, sym, ap, ◌∙◌, subst, true≢false}
use Rattle.std.specs.FinMap.{is_sorted}
use Rattle.std.specs.Prelude.{Some, None, unwrap_or, if◌then◌else◌}
use Rattle.std.proofs.lemmas.Option.{none-some}
use Rattle.eu_model.specs.declared.queues.Queue.{Queue}
use Rattle.eu_audit_queue.specs.PlainQueue.{is_plain_queue}
use Rattle.eu_base.specs.Values.{key_cmp, name_cmp}
use Rattle.eu_base.proofs.KeyLemmas.{keys_total, names_total}
use Rattle.eu_model.specs.declared.states.State.{State}
use Rattle.eu_model.specs.declared.views.Listed.{Listed}
use Rattle.eu_model.specs.Server.{PlainServer}
use Rattle.eu_model.specs.State.{plain_of_state, server_of_state}
use Rattle.eu_model.specs.View.{by_key}
use Rattle.eu_audit.specs.PlainForm.{has_plain_parts, is_in_order, is_plain_form}
use Rattle.eu_audit.specs.Verdict.{IsListed}
use Rattle.eu_audit.proofs.TableLemmas.{of_entries, to_entries}

pub by_key-last : (leases : List Listed) (l : Listed) → by_key leases ++ (l.instance.key, l) ∷ [] ≡ by_key (leases ++ l ∷ [])
by_key-last [] l = refl
by_key-last (m ∷ leases) l = ap (λ es. (m.instance.key, m) ∷ es) (by_key-last leases l)

pub length-by_key : (leases : List Listed) → length (by_key leases) ≡ length leases
length-by_key [] = refl
length-by_key (l ∷ leases) = ap (λ n. suc n) (length-by_key leases)

-- ---- what is listed

both : (a b : Bool) → a ≡ true → b ≡ true → a && b ≡ true
both a b x y = ap (λ z. z && b) x ∙ y

each : (a b : Bool) → a && b ≡ true → (a ≡ true) × (b ≡ true)
each true b is = (refl, is)
each false b is = absurd (true≢false (sym is))

pub parts : (s : State) → is_plain_form s ≡ true → (has_plain_parts s ≡ true) × (is_in_order s ≡ true)
parts s is = each (has_plain_parts s) (is_in_order s) is

pub whole : (s : State) → has_plain_parts s ≡ true → is_in_order s ≡ true → is_plain_form s ≡ true
whole s x y = both (has_plain_parts s) (is_in_order s) x y

-- what plain data lists is its plain form, and the data is in order
pub listed_is : (p : PlainServer) (s : State) → IsListed p.registry s → p.queues ≡ s.queues → (is_in_order s ≡ true) × (p ≡ server_of_state s)
listed_is p s (leases, overrides, (config, expected, last, since, previous)) queues =
    let l = of_entries keys_total p.registry.leases (by_key s.leases) leases in
    let r = of_entries names_total p.registry.overrides s.overrides overrides in (
      both (is_sorted key_cmp (by_key s.leases)) (is_sorted name_cmp s.overrides) l.0 r.0,
      λ i. record {
        registry = record {
          config = config i;
          leases = l.1 i;
          overrides = r.1 i;
          expected = expected i;
          last = last i;
          since = since i;
          previous = previous i;
        };
        queues = queues i;
      },
    )

-- and the other way round
pub is_listed : (p : PlainServer) (s : State) → is_in_order s ≡ true → p ≡ server_of_state s → IsListed p.registry s × (p.queues ≡ s.queues)
is_listed p s order is =
    let sorted = each (is_sorted key_cmp (by_key s.leases)) (is_sorted name_cmp s.overrides) order in
    let plain : IsListed (plain_of_state s) s = (to_entries keys_total (by_key s.leases) sorted.0, to_entries names_total s.overrides sorted.1, (refl, refl, refl, refl, refl)) in
    (subst (λ (q : PlainServer). IsListed q.registry s) (sym is) plain, ap (λ (q : PlainServer). q.queues) is)

-- a queue that is read is plain, and that one
pub read_plain : (q x : Queue) → (if is_plain_queue q then Some q else None) ≡ Some x → (is_plain_queue q ≡ true) × (x ≡ q)
read_plain q x is = by (is_plain_queue q) refl is
  where
    by : (b : Bool) → is_plain_queue q ≡ b → (if b then Some q else None) ≡ Some x → (is_plain_queue q ≡ true) × (x ≡ q)
    by true plain e = (plain, ap (λ o. unwrap_or o q) (sym e))
    by false plain e = absurd (none-some x e)
