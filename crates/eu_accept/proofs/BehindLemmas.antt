-- What is counted of what was read and dropped
use Rattle.std.proofs.Common.{◌≡◌, ◌≤◌, ◌==◌, ◌+◌, ℕ, List, [], ◌++◌, Bool, true, false, Option, Result, Ok, Err, length, if◌then◌else◌, refl, sym, subst, arith, add-zero, length-append}
use Rattle.std.specs.IoError.{error_kind}
use Rattle.std.specs.Io.{ReadsAtMost}
use Rattle.std.specs.Io.KnownBytes.{Consumes, ReadConsumes}
use Rattle.std.specs.declared.io.Error.{Error}
use Rattle.std.proofs.KnownBytes.{Consumes-nil, Consumes-kept, Consumes-trans, ConsumesCount-from_read}
use Rattle.std.proofs.lemmas.Bool.{eqb-true}
use Rattle.eu_accept.specs.declared.behind.Behind.{Behind}
use Rattle.eu_accept.specs.declared.behind.Behind.TheVariants.{Came, Later, End}
use Rattle.eu_accept.specs.Behind.{Drops, behind_by, count_of, may_come}

-- a read that gave some bytes counts them
count_some : (none : Bool) (count : ℕ) → (none ≡ true → count ≡ 0) → count_of (if none then End else Came count) ≡ count
count_some true count zero = sym (zero refl)
count_some false count zero = refl

-- one that has failed counts none
count_none : (later : Bool) → count_of (if later then Later else End) ≡ 0
count_none true = refl
count_none false = refl

-- what a read gave was dropped, and as much was counted
read_drops : (old new : Option (List ℕ)) (read : Result ℕ Error) (buffer : List ℕ) → ReadsAtMost read buffer → ReadConsumes old new read buffer → Drops old new 0 (count_of (behind_by read))
read_drops old new (Ok count) buffer bound gave =
    let given = ConsumesCount-from_read {E = Error} old new (Ok count) buffer bound gave in
    let told = count_some (count == 0) count (eqb-true count 0) in
    record { bytes = given.0; count = omega (arith, told, given.2); read = given.1 }
read_drops old new (Err error) buffer bound kept =
    record { bytes = []; count = count_none (may_come (error_kind error)); read = Consumes-kept old old new [] (Consumes-nil old) kept }

-- no more were counted than there was room for
read_most : (read : Result ℕ Error) (buffer : List ℕ) → ReadsAtMost read buffer → count_of (behind_by read) ≤ length buffer
read_most (Ok count) buffer bound =
    let told = count_some (count == 0) count (eqb-true count 0) in
    omega (arith, told, bound.0)
read_most (Err error) buffer bound =
    let told = count_none (may_come (error_kind error)) in
    omega (arith, told)

pub told_drops : (old new : Option (List ℕ)) (read : Result ℕ Error) (buffer : List ℕ) (told : Behind) → told ≡ behind_by read → ReadsAtMost read buffer → ReadConsumes old new read buffer → Drops old new 0 (count_of told)
told_drops old new read buffer told is bound gave = subst (λ t. Drops old new 0 (count_of t)) (sym is) (read_drops old new read buffer bound gave)

pub told_most : (read : Result ℕ Error) (buffer : List ℕ) (told : Behind) → told ≡ behind_by read → ReadsAtMost read buffer → count_of told ≤ length buffer
told_most read buffer told is bound = subst (λ t. count_of t ≤ length buffer) (sym is) (read_most read buffer bound)

-- so far nothing was dropped
pub drops_nothing : (a : Option (List ℕ)) (before : ℕ) → Drops a a before before
drops_nothing a before = record { bytes = []; count = sym (add-zero before); read = Consumes-nil a }

-- and then more
pub drops_more : (a b c : Option (List ℕ)) (before dropped count : ℕ) → Drops a b before dropped → Drops b c 0 count → Drops a c before (dropped + count)
drops_more a b c before dropped count one two = record {
  bytes = one.bytes ++ two.bytes;
  count = omega (arith, one.count, two.count, length-append one.bytes two.bytes);
  read = Consumes-trans a b c one.bytes two.bytes one.read two.read;
}

-- and then none
pub drops_none : (a b c : Option (List ℕ)) (before dropped : ℕ) → Drops a b before dropped → Drops b c 0 0 → Drops a c before dropped
drops_none a b c before dropped one two = subst (Drops a c before) (add-zero dropped) (drops_more a b c before dropped 0 one two)
