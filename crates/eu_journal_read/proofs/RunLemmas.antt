-- Lines that are taken one after the other
use Rattle.std.proofs.Common.{◌≡◌, ◌⊎◌, List, [], ◌∷◌, ◌++◌, Result, Ok, Err, refl, ap, sym, ◌∙◌, inl, inr}
use Rattle.eu_base.specs.Gives.{◌>>=◌}
use Rattle.eu_journal.specs.Law.{bare, bare_line}
use Rattle.eu_journal_values.specs.declared.faults.LineFault.{LineFault}
use Rattle.eu_journal_values.specs.declared.faults.LineFault.TheVariants.{NotALine, OutOfMemory}
use Rattle.eu_journal.specs.declared.lines.JournalLine.{JournalLine}
use Rattle.eu_journal.specs.declared.lines.JournalLine.TheVariants as line
use Rattle.eu_model.specs.declared.commands.Entry.{Entry}
use Rattle.eu_model.specs.declared.commands.Reply.{Reply}
use Rattle.eu_model.specs.declared.commands.Reply.TheVariants as reply
use Rattle.eu_journal_read.specs.Drafts.{completed}
use Rattle.eu_journal_read.specs.Front.{Front}
use Rattle.eu_journal_read.specs.Stages.{take_line, take_of_entry}
use Rattle.eu_journal_read.specs.declared.stages.Stage.{Stage}
use Rattle.eu_journal_read.specs.declared.stages.Stage.TheVariants as stage

-- what came of a step that was followed by another
pub bind_ok : {A B : Type 0} (r : Result A LineFault) (k : A → Result B LineFault) (b : B) → r >>= k ≡ Ok b → (a : A) × (r ≡ Ok a) × (k a ≡ Ok b)
bind_ok (Ok a) k b is = (a, refl, is)
bind_ok (Err f) k b is = cc

-- a step that was followed by another, where it came off
pub bind_of : {A B : Type 0} (r : Result A LineFault) (k : A → Result B LineFault) (a : A) → r ≡ Ok a → r >>= k ≡ k a
bind_of {A} r k a is = ap (λ (x : Result A LineFault). x >>= k) is

-- a step that didn't come off is followed by none
pub faulted_by : {A B : Type 0} (r : Result A LineFault) (k : A → Result B LineFault) (f : LineFault) → (f ≡ OutOfMemory) ⊎ (r ≡ Err f) → (f ≡ OutOfMemory) ⊎ (r >>= k ≡ Err f)
faulted_by r k f (inl memory) = inl memory
faulted_by {A} r k f (inr is) = inr (ap (λ (x : Result A LineFault). x >>= k) is)

-- where there is no entry nothing belongs to one
pub no_entry : (s : Stage) (l : JournalLine) → ((f : Front) (e : Entry) → s ≡ stage.Answered f e → ⊥) → take_of_entry s l ≡ Err NotALine
no_entry (stage.Answered f e) l not = absurd (not f e refl)
no_entry stage.Empty l not = refl
no_entry (stage.Base d) l not = refl
no_entry (stage.Asked f a) l not = refl
no_entry (stage.End f d) l not = refl
no_entry (stage.Sealed f d) l not = refl

-- the stage after these lines
abbrev pub run : Stage → List JournalLine → Result Stage LineFault
run s [] = Ok s
run s (l ∷ ls) = take_line s l >>= (λ t. run t ls)

pub run_more : (s t : Stage) (xs ys : List JournalLine) → run s xs ≡ Ok t → run s (xs ++ ys) ≡ run t ys
run_more s t [] ys is = let same : s ≡ t = cc in ap (λ (u : Stage). run u ys) same
run_more s t (x ∷ xs) ys is =
    let step = bind_ok (take_line s x) (λ u. run u xs) t is in
    rw (step.1) (run_more step.0 t xs ys step.2)

pub run_next : (s t u : Stage) (x : JournalLine) (xs : List JournalLine) → take_line s x ≡ Ok t → run t xs ≡ Ok u → run s (x ∷ xs) ≡ Ok u
run_next s t u x xs first rest = rw first rest

pub run_both : (s t u : Stage) (xs ys : List JournalLine) → run s xs ≡ Ok t → run t ys ≡ Ok u → run s (xs ++ ys) ≡ Ok u
run_both s t u xs ys first rest = run_more s t xs ys first ∙ rest

-- victims and tasks of a reply don't count
pub completed_bare : (r : Reply) → completed (bare r) [] [] ≡ completed r [] []
completed_bare (reply.Evicted keys) = refl
completed_bare (reply.Batch tasks) = refl
completed_bare (reply.Registered fresh) = refl
completed_bare reply.Done = refl
completed_bare reply.NotFound = refl
completed_bare reply.Stale = refl
completed_bare (reply.Conflict i) = refl
completed_bare (reply.Last n) = refl
completed_bare (reply.Expected n) = refl
completed_bare reply.Settled = refl

answer_bare : (s : Stage) (r : Reply) → take_line s (line.Answered (bare r)) ≡ take_line s (line.Answered r)
answer_bare stage.Empty r = refl
answer_bare (stage.Base d) r = refl
answer_bare (stage.Asked f a) r = rw (completed_bare r) refl
answer_bare (stage.Answered f e) r = refl
answer_bare (stage.End f d) r = refl
answer_bare (stage.Sealed f d) r = refl

take_bare : (s : Stage) (l : JournalLine) → take_line s (bare_line l) ≡ take_line s l
take_bare s (line.Head h) = refl
take_bare s (line.Lease l) = refl
take_bare s (line.Row id status) = refl
take_bare s line.Peer = refl
take_bare s (line.Waiting t) = refl
take_bare s (line.Flight t) = refl
take_bare s (line.Asked pass number moment command) = refl
take_bare s (line.Answered r) = answer_bare s r
take_bare s (line.Victim k) = refl
take_bare s (line.Sent t) = refl
take_bare s (line.Digest text) = refl

pub take_alike : (s : Stage) (l m : JournalLine) → bare_line l ≡ bare_line m → take_line s l ≡ take_line s m
take_alike s l m same = sym (take_bare s l) ∙ ap (take_line s) same ∙ take_bare s m
