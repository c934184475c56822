-- What a look at a lease gives, and what is listed, is what the machine shows
use Rattle.std.proofs.Common.{◌≡◌, ℕ, Bool, true, false, List, Result, Ok, Err, IfOk, sym, ap, ◌∙◌}
use Rattle.std.specs.Prelude.{cond, ◌&&◌, Option, Some, None}
use Rattle.eu_model.specs.declared.status_counts.StatusCounts.{StatusCounts}
use Rattle.eu_base.specs.declared.names.Key.{Key}
use Rattle.eu_model.specs.declared.views.Listed.{Listed}
use Rattle.eu_model.specs.Plain.{Plain}
use Rattle.eu_model.specs.View.{one, listing, status_counts}
use Rattle.eu_model.specs.Answers.{Shows}
use Rattle.eu_model.specs.PlainSteps.{plain_expired, plain_listing, plain_one, plain_seen}
use Rattle.eu_model.proofs.SeenLemmas.{one-kept}
use Rattle.eu_model.proofs.ListingLemmas.{listing_shown}
use Rattle.eu_store.specs.Brief.{IsBrief, ListsBriefly}
use Rattle.eu_store.specs.Stored.{listing_of}
use Rattle.eu_core.specs.declared.registry.Registry.TheInside.{Inside}
use Rattle.eu_core.specs.Registry.{plain_of}

-- what is seen is held
pub seen_held : (b : Bool) (t : ℕ) (o : Option Listed) (l : Listed) → Some l ≡ plain_seen b t o → o ≡ Some l
seen_held b t None l e = sym e
seen_held b t (Some m) l e =
    elim (b && plain_expired m t 0) as (λ x. Some l ≡ cond x None (Some m) → Some m ≡ Some l) [ true ↦ λ h. cc | false ↦ λ h. sym h ] e

pub shows : (p : Plain) (k : Key) (t : ℕ) (value : Option Listed) → value ≡ plain_one p k t → Shows p (λ s. one s k t) value
shows p k t value is s e = is ∙ ap (λ (x : Plain). plain_one x k t) (sym e) ∙ sym (one-kept s k t)

-- what the leases list is what the machine shows
pub lists : {V E : Type 0} (app : Option (List ℕ)) (a : Inside) (p : Plain) → plain_of a ≡ p → (items : V → List Listed) (r : Result V E)
    → IfOk r (λ v. items v ≡ listing_of app a.leases.held) → IfOk r (λ v. Shows p (listing app) (items v))
lists app a p is items (Ok v) listed = λ s e. listed ∙ ap (plain_listing app) is ∙ listing_shown app p s e
lists app a p is items (Err f) listed = tt

-- and so are the counts by status
pub counts_by_status : (a : Inside) (p : Plain) → plain_of a ≡ p → (value : StatusCounts) → value ≡ status_counts (listing_of None a.leases.held) → Shows p (λ s. status_counts (listing None s)) value
counts_by_status a p is value counted = λ s e. counted ∙ ap (λ (q : Plain). status_counts (plain_listing None q)) is ∙ ap status_counts (listing_shown None p s e)

-- and where it is brief, so is that
pub lists_briefly : (few short : ℕ) (app : Option (List ℕ)) (a : Inside) (p : Plain) → plain_of a ≡ p
    → IsBrief few short (listing_of app a.leases.held) → ListsBriefly few short app p
lists_briefly few short app a p is brief s e = rw (ap (plain_listing app) is ∙ listing_shown app p s e) at brief
