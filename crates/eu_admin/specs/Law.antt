-- What the reasons and the moments that an operator sees mean
use Rattle.std.specs.Prelude.{◌≡◌, ℕ, ◌<◌, ◌≤◌, ◌^◌, Bool, true, false, nat_lt}
use Rattle.eu_model.specs.Machine.{Machine, Record, Kind, is_expired, last, newest, permits, threshold}
use Rattle.eu_model.specs.Machine.Kind.{Fresh, Renewed}
use Rattle.eu_model.specs.Plain.{listed}
use Rattle.eu_model.specs.View.{counts}
use Rattle.eu_admin.specs.declared.facts.Permission.{Permission}
use Rattle.eu_admin.specs.declared.facts.Permission.TheVariants.{Off, NoThreshold, TooFew, Fine}
use Rattle.eu_admin.specs.Apps.{heard, held_until}
use Rattle.eu_admin.specs.Facts.{permission}

-- ---- why evictions are permitted

-- what a reason says: whether self-preservation is on, and how the renewals of the last minute stand to the threshold
abbrev pub Says : Bool → ℕ → ℕ → Permission → Type 0
Says preservation wanted renewed Off = preservation ≡ false
Says preservation wanted renewed NoThreshold = (preservation ≡ true) × (wanted ≡ 0)
Says preservation wanted renewed TooFew = (preservation ≡ true) × (0 < wanted) × (renewed ≤ wanted)
Says preservation wanted renewed Fine = (preservation ≡ true) × (0 < wanted) × (wanted < renewed)

-- and whether evictions are permitted by it
abbrev pub permitted_by : Permission → Bool
permitted_by Off = true
permitted_by NoThreshold = false
permitted_by TooFew = false
permitted_by Fine = true

-- so it is in each machine
abbrev pub ReasonsAreTheRule : Type 0
ReasonsAreTheRule = (s : Machine) →
    Says s.config.preservation (threshold s.config s.expected) (last s.marks) (permission (counts s)) × (permits s ≡ permitted_by (permission (counts s)))

-- ---- when an instance was heard of, and until when its lease is held

-- a touch is the registration, or a renewal that isn't before it
abbrev pub IsTouch : Kind → ℕ → ℕ → Type 0
IsTouch Fresh registered at = at ≡ registered
IsTouch Renewed registered at = registered ≤ at

-- it was last heard of at its newest touch
abbrev pub SilencesAreSinceTouches : Type 0
SilencesAreSinceTouches = (r : Record) → IsTouch (newest r.touches).kind r.registered (newest r.touches).at → heard (listed r) ≡ (newest r.touches).at

-- and its lease has expired where the end that is told lies before the moment, which is a number of 64 bits
abbrev pub LeasesEndAsTold : Type 0
LeasesEndAsTold = (r : Record) (t : ℕ) → t < 2 ^ 64 → is_expired r t 0 ≡ nat_lt (held_until (listed r)) t
