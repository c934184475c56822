-- What is known of a request that isn't whole yet stays known as the buffer grows.
use Rattle.std.proofs.Common.{◌≡◌, ℕ, ◌+◌, ◌-◌, ◌<◌, ◌≤◌, ⊎_elim, List, [], ◌∷◌, ◌++◌, length, drop, take, Option, Some, None, IfSome, Result, Ok, Err, OnErr, refl, sym, ap, ◌∙◌, subst, append_assoc, length-append, arith}
use Rattle.std.proofs.lemmas.List.{length-drop, drop-append-le}
use Rattle.std.proofs.lemmas.Bool.{cases_lt}
use Rattle.httparse.specs.Grammar.{RequestHead, print_chunk_line, HasNoChunkLine}
use Rattle.eu_base.specs.declared.faults.Fault.{Fault}
use Rattle.eu_framing.specs.declared.walk.Walk.{Walk}
use Rattle.eu_framing.specs.declared.request.Head.{Head}
use Rattle.eu_framing.specs.declared.request.Begun.{Begun}
use Rattle.eu_framing.specs.Chunks.{Chunk, max_raw}
use Rattle.eu_framing.specs.Message.{HasHead}
use Rattle.eu_framing.specs.HeadSteps.{FindsHead}
use Rattle.eu_framing.specs.Fields.{IsWithin}
use Rattle.eu_framing.specs.Reading.{Longer}
use Rattle.eu_framing.specs.Scanning.{LineEndsAfter}
use Rattle.eu_framing.specs.Steps.{FindsLine, Took}
use Rattle.eu_framing.specs.ChunkSteps.{TakesChunk, FindsLast, TakesChunks}
use Rattle.eu_framing.specs.Walking.{IsSeen, IsFound, IsHere, Stands, IsBegun}
use Rattle.eu_framing.proofs.BodyLemmas.{behind}
use Rattle.eu_framing.proofs.ChunkLemmas.{took_more, took_next}
use Rattle.eu_framing.proofs.ScanLemmas.{line_start, line_more, line_stays}
use Rattle.eu_framing.proofs.TrailerLemmas.{finds_line_more}

longer_length : {b b' : List ℕ} → Longer b b' → length b ≤ length b'
longer_length {b = b} x = omega (arith, ap length x.grown, length-append b x.more)

grown_behind : (n : ℕ) {b b' : List ℕ} → n ≤ length b → (x : Longer b b') → drop n b' ≡ drop n b ++ x.more
grown_behind n {b = b} within x = ap (drop n) x.grown ∙ behind n b x.more within

pub seen_start : (start : ℕ) (b : List ℕ) → start ≤ length b → IsSeen start start b
seen_start start b within = record { from = omega arith; within = within; behind = line_start (drop start b) (start - start) (omega arith) }

pub seen_more : (start seen : ℕ) {b b' : List ℕ} → Longer b b' → IsSeen start seen b → IsSeen start seen b'
seen_more start seen {b = b} {b' = b'} x s = record {
  from = s.from;
  within = omega (arith, s.within, longer_length x);
  behind = line_stays (drop start b) (drop start b') x.more (seen - start) (grown_behind start (omega (arith, s.from, s.within)) x) s.behind (omega (arith, length-drop start b, s.from, s.within));
}

-- all was looked through
pub seen_all : (start seen : ℕ) {b b' : List ℕ} → seen ≡ length b → start ≤ length b → HasNoChunkLine (drop start b) → Longer b b' → IsSeen start seen b'
seen_all start seen {b = b} {b' = b'} all within none x = record {
  from = omega (arith, all, within);
  within = omega (arith, all, longer_length x);
  behind = line_more (drop start b) (drop start b') x.more (seen - start) (grown_behind start within x) none (omega (arith, all, length-drop start b));
}

pub found_more : (room start : ℕ) {b b' : List ℕ} (found : ℕ × ℕ) → Longer b b' → IsFound room start b found → IsFound room start b' found
found_more room start {b = b} {b' = b'} found x f = record {
  line = finds_line_more room start b b' x.more found (omega (arith, f.inside)) x.grown f.line;
  inside = omega (arith, f.inside, longer_length x);
  fits = f.fits;
}

line_so_more : (room start : ℕ) {b b' : List ℕ} (line : Option (ℕ × ℕ)) → Longer b b' → IfSome line (IsFound room start b) → IfSome line (IsFound room start b')
line_so_more room start None x f = tt
line_so_more room start (Some found) x f = found_more room start found x f

pub here_more : (room : ℕ) {b b' : List ℕ} (walk : Walk) → Longer b b' → IsHere room b walk → IsHere room b' walk
here_more room walk x h = record { seen = seen_more walk.at walk.seen x h.seen; line = line_so_more room walk.at walk.line x h.line }

-- the same of a walk with another body
pub here_of : (room : ℕ) (b : List ℕ) (walk walk' : Walk) → walk'.at ≡ walk.at → walk'.seen ≡ walk.seen → walk'.line ≡ walk.line → IsHere room b walk → IsHere room b walk'
here_of room b walk walk' at seen line h = record { seen = rw (at, seen) h.seen; line = rw (line, at) h.line }

pub stands_more : (start : ℕ) {b b' : List ℕ} (walk : Walk) → Longer b b' → Stands start b walk → Stands start b' walk
stands_more start {b = b} {b' = b'} walk x s = record {
  took = (s.took.0, took_more start walk.at b b' x.more walk.body.items s.took.0 x.grown s.took.1);
  here = here_more (max_raw - (walk.at - start)) walk x s.here;
}

-- the walk hasn't gone on, and what it knows of the line is true of the buffer now
pub stands_here : (start : ℕ) {b b' : List ℕ} (walk walk' : Walk) → walk'.at ≡ walk.at → walk'.body.items ≡ walk.body.items → Longer b b' → Stands start b walk → IsHere (max_raw - (walk.at - start)) b' walk' → Stands start b' walk'
stands_here start {b = b} {b' = b'} walk walk' at body x s h =
    let took = (stands_more start walk x s).took in record {
      took = (took.0, rw (at, body) took.1);
      here = subst (λ (n : ℕ). IsHere (max_raw - (n - start)) b' walk') (sym at) h;
    }

-- nothing was gone through yet
pub stands_new : (start : ℕ) (b : List ℕ) (walk : Walk) → start ≤ length b → walk.at ≡ start → walk.seen ≡ start → walk.line ≡ None → walk.body.items ≡ [] → Stands start b walk
stands_new start b walk within at seen line body = record {
  took = ([], record { each = tt; whole = rw at refl; bytes = body; few = omega (arith, ap length body); size = omega (arith, at); short = omega arith; inside = omega (arith, at, within) });
  here = here_new (max_raw - (walk.at - start)) start b walk within at seen line;
}
  where
    here_new : (room start : ℕ) (b : List ℕ) (walk : Walk) → start ≤ length b → walk.at ≡ start → walk.seen ≡ start → walk.line ≡ None → IsHere room b walk
    here_new room start b walk within at seen line = record {
      seen = rw (at, seen) (seen_start start b within);
      line = rw line tt;
    }

-- the walk goes on behind a chunk
pub stands_next : (start n : ℕ) {b b' : List ℕ} (walk walk' walk'' : Walk) → Longer b b' → Stands start b walk
    → TakesChunk walk.at (max_raw - (walk.at - start)) b' walk.body.items walk'.body.items n → walk''.at ≡ walk.at + n → walk''.seen ≡ walk.at + n → walk''.line ≡ None → walk''.body.items ≡ walk'.body.items → Stands start b' walk''
stands_next start n {b = b} {b' = b'} walk walk' walk'' x s c at seen line body =
    let next = took_next start walk.at b b' x.more walk.body.items walk'.body.items s.took.0 n x.grown s.took.1 c in record {
      took = (next.0, rw (at, body) next.1);
      here = record { seen = rw (at, seen) (seen_start (walk.at + n) b' c.inside); line = rw line tt };
    }

head_more : {b b' : List ℕ} (head : Head) → Longer b b' → FindsHead (Some head) b → FindsHead (Some head) b'
head_more {b = b} {b' = b'} head x f = (
  f.0,
  λ more. subst (λ (t : List ℕ). HasHead t f.0 (drop head.len b' ++ more)) (sym (ap (λ (t : List ℕ). t ++ more) x.grown ∙ append_assoc b x.more more))
      (subst (λ (t : List ℕ). HasHead (b ++ (x.more ++ more)) f.0 t) (sym (ap (λ (t : List ℕ). t ++ more) (grown_behind head.len f.3 x) ∙ append_assoc (drop head.len b) x.more more)) (f.1 (x.more ++ more))),
  f.2,
  omega (arith, f.3, longer_length x),
  f.4,
)

-- what holds of a value holds of one that is equal, where there is one
pub if_some_by : {A B : Type 0} (o : Option A) (f : A → B) (x : B) (P : B → Type 0) → IfSome o (λ a. f a ≡ x) → P x → IfSome o (λ a. P (f a))
if_some_by None f x P is p = cc
if_some_by (Some a) f x P is p = rw is p

-- a request that was begun, with more bytes and as far as its walk has come
pub begun_more : {b b' : List ℕ} (begun : Begun) (walk : Walk) → Longer b b' → IsBegun b begun → Stands begun.head.len b' walk → IsBegun b' (record { head = begun.head; walk = walk })
begun_more begun walk x is s = record { head = head_more begun.head x is.head; framing = is.framing; walk = s }

-- the walk stands at the last line
pub last_stands : (start n : ℕ) {b b' : List ℕ} (walk walk' : Walk) → walk'.at ≡ walk.at → Longer b b' → Stands start b walk
    → FindsLast walk.at (max_raw - (walk.at - start)) b' walk.body.items walk'.body.items n → TakesChunks start walk'.at n b' walk'.body.items
last_stands start n {b = b} {b' = b'} walk walk' at x s last =
    let took = (stands_more start walk x s).took in rw (at, last.1) (
      took.0,
      took.1,
      last.0,
      omega (arith, last.2, took.1.size, took.1.short),
      last.3,
      omega (arith, took.1.size),
    )

-- what holds either way holds where it went wrong
pub on_err : {A P : Type 0} (r : Result A Fault) → P → OnErr r P
on_err (Ok x) p = tt
on_err (Err fault) p = p
