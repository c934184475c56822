-- What was taken is what a journal's lines say
use Rattle.std.proofs.Common.{◌≡◌, ℕ, Bool, true, false, not, ◌&&◌, if◌then◌else◌, List, [], ◌∷◌, ◌++◌, length, map, Option, Some, None, is_some, Result, Ok, Err, refl, ap, sym, ◌∙◌, append_assoc, append-nil, arith}
use Rattle.std.proofs.lemmas.Bool.{and_parts, eqb-true}
use Rattle.std.proofs.lemmas.List.{map-append}
use Rattle.std.specs.Prelude.{option_to_list}
use Rattle.eu_base.specs.declared.statuses.Status.{Status}
use Rattle.eu_base.specs.declared.tasks.Task.{Task}
use Rattle.eu_base.specs.Gives.{◌>>=◌}
use Rattle.eu_journal.specs.Law.{bare, bare_line}
use Rattle.eu_journal_values.specs.declared.faults.LineFault.{LineFault}
use Rattle.eu_journal_values.specs.declared.faults.LineFault.TheVariants.{NotALine}
use Rattle.eu_journal.specs.declared.lines.Head.{Head}
use Rattle.eu_journal.specs.declared.lines.JournalLine.{JournalLine}
use Rattle.eu_journal.specs.declared.lines.JournalLine.TheVariants as line
use Rattle.eu_journal_text.specs.Text.{entries_lines, entry_lines, queue_lines, queues_lines, reply_lines, row_line, state_lines}
use Rattle.eu_model.specs.declared.commands.Entry.{Entry}
use Rattle.eu_model.specs.declared.commands.Reply.{Reply}
use Rattle.eu_model.specs.declared.commands.Reply.TheVariants as reply
use Rattle.eu_model.specs.declared.queues.Queue.{Queue}
use Rattle.eu_model.specs.declared.views.Listed.{Listed}
use Rattle.eu_model.specs.Server.{idle}
use Rattle.eu_journal_read.specs.Drafts.{Draft, answered, begun, entry_more, has_no_peers, flies_more, has_none, reply_more, state_more, state_of, waits_more}
use Rattle.eu_journal_read.specs.Front.{Front}
use Rattle.eu_journal_read.specs.Stages.{closed, take_head, take_line, take_of_entry, take_of_state}
use Rattle.eu_journal_read.specs.declared.entries.Asked.{Asked}
use Rattle.eu_journal_read.specs.declared.stages.Stage.{Stage}
use Rattle.eu_journal_read.specs.declared.stages.Stage.TheVariants as stage
use Rattle.eu_journal_read.proofs.RunLemmas.{bind_ok}

-- ---- what a stage was told

abbrev pub front_lines : Front → List JournalLine
front_lines f = state_lines (state_of f.base) ++ entries_lines f.entries

abbrev pub asked_line : Asked → JournalLine
asked_line a = line.Asked a.pass a.number a.moment a.command

abbrev pub stage_lines : Stage → List JournalLine
stage_lines stage.Empty = []
stage_lines (stage.Base d) = state_lines (state_of d)
stage_lines (stage.Asked f a) = front_lines f ++ asked_line a ∷ []
stage_lines (stage.Answered f e) = front_lines f ++ entry_lines e
stage_lines (stage.End f d) = front_lines f ++ state_lines (state_of d)
stage_lines (stage.Sealed f d) = front_lines f ++ state_lines (state_of d)

-- without victims and tasks within replies
abbrev pub bared : List JournalLine → List JournalLine
bared ls = map bare_line ls

pub bared-append : (xs ys : List JournalLine) → bared (xs ++ ys) ≡ bared xs ++ bared ys
bared-append xs ys = map-append bare_line xs ys

-- ---- lists of lines

entries_lines-snoc : (es : List Entry) (e : Entry) → entries_lines (es ++ e ∷ []) ≡ entries_lines es ++ entry_lines e
entries_lines-snoc [] e = append-nil (entry_lines e)
entries_lines-snoc (x ∷ es) e = ap (λ (ls : List JournalLine). entry_lines x ++ ls) (entries_lines-snoc es e) ∙ sym (append_assoc (entry_lines x) (entries_lines es) (entry_lines e))

queues_lines-append : (xs ys : List Queue) → queues_lines (xs ++ ys) ≡ queues_lines xs ++ queues_lines ys
queues_lines-append [] ys = refl
queues_lines-append (x ∷ xs) ys = ap (λ (ls : List JournalLine). queue_lines x ++ ls) (queues_lines-append xs ys) ∙ sym (append_assoc (queue_lines x) (queues_lines xs) (queues_lines ys))

pub closed_told : (s : Stage) (f : Front) → closed s ≡ Ok f → front_lines f ≡ stage_lines s
closed_told stage.Empty f is = cc
closed_told (stage.Base d) f is =
    let same : record { base = d; entries = [] } ≡ f = cc in
    ap front_lines (sym same) ∙ append-nil (state_lines (state_of d))
closed_told (stage.Asked g a) f is = cc
closed_told (stage.Answered g e) f is =
    let same : record { base = g.base; entries = g.entries ++ e ∷ [] } ≡ f = cc in
    ap front_lines (sym same) ∙ rw (entries_lines-snoc g.entries e) (sym (append_assoc (state_lines (state_of g.base)) (entries_lines g.entries) (entry_lines e)))
closed_told (stage.End g d) f is = cc
closed_told (stage.Sealed g d) f is = cc

-- ---- a state

none_nil : {A : Type 0} (xs : List A) → has_none xs ≡ true → xs ≡ []
none_nil [] is = refl
none_nil (x ∷ xs) is = absurd (let e : length (x ∷ xs) ≡ 0 = eqb-true (length (x ∷ xs)) 0 is in omega arith)

no_newest : (o : Option Queue) → not (is_some o) ≡ true → o ≡ None
no_newest None is = refl
no_newest (Some q) is = cc

-- what came of a choice that could be refused
abbrev if_so : {A : Type 0} → Bool → A → Result A LineFault
if_so b x = if b then Ok x else Err NotALine

if_ok : {A : Type 0} (b : Bool) (x y : A) → if_so b x ≡ Ok y → (b ≡ true) × (x ≡ y)
if_ok true x y is = (refl, cc)
if_ok false x y is = cc

one_more : {A : Type 0} (f : A → JournalLine) (xs : List A) (x : A) → map f (xs ++ x ∷ []) ++ [] ≡ (map f xs ++ []) ++ f x ∷ []
one_more f xs x = append-nil (map f (xs ++ x ∷ [])) ∙ map-append f xs (x ∷ []) ∙ ap (λ (ls : List JournalLine). ls ++ f x ∷ []) (sym (append-nil (map f xs)))

lease_lines : (h : Head) (ls : List Listed) (l : Listed) (rs : List (List ℕ × Status)) (qs : List Queue) (o : Option Queue) → rs ≡ [] → qs ≡ [] → o ≡ None
    → state_lines (state_of (record { head = h; leases = ls ++ l ∷ []; overrides = rs; queues = qs; newest = o })) ≡ state_lines (state_of (record { head = h; leases = ls; overrides = rs; queues = qs; newest = o })) ++ line.Lease l ∷ []
lease_lines h ls l [] [] None r q n = ap (λ (xs : List JournalLine). line.Head h ∷ xs) (one_more line.Lease ls l)
lease_lines h ls l [] [] (Some x) r q n = cc
lease_lines h ls l [] (x ∷ qs) o r q n = cc
lease_lines h ls l (x ∷ rs) qs o r q n = cc

row_lines : (h : Head) (ls : List Listed) (rs : List (List ℕ × Status)) (row : List ℕ × Status) (qs : List Queue) (o : Option Queue) → qs ≡ [] → o ≡ None
    → state_lines (state_of (record { head = h; leases = ls; overrides = rs ++ row ∷ []; queues = qs; newest = o })) ≡ state_lines (state_of (record { head = h; leases = ls; overrides = rs; queues = qs; newest = o })) ++ row_line row ∷ []
row_lines h ls rs row [] None q n =
    ap (λ (xs : List JournalLine). line.Head h ∷ (map line.Lease ls ++ xs)) (one_more row_line rs row)
    ∙ sym (append_assoc (line.Head h ∷ map line.Lease ls) (map row_line rs ++ []) (row_line row ∷ []))
row_lines h ls rs row [] (Some x) q n = cc
row_lines h ls rs row (x ∷ qs) o q n = cc

lease_told : (d e : Draft) (l : Listed) → state_more d (line.Lease l) ≡ Ok e → state_lines (state_of e) ≡ state_lines (state_of d) ++ line.Lease l ∷ []
lease_told d e l is =
    let so = if_ok (has_none d.overrides && has_no_peers d) (record d { leases = d.leases ++ l ∷ [] }) e is in
    let parts = and_parts (has_none d.overrides) (has_no_peers d) so.0 in
    let peers = and_parts (has_none d.queues) (not (is_some d.newest)) parts.1 in
    ap (λ (x : Draft). state_lines (state_of x)) (sym so.1) ∙ lease_lines d.head d.leases l d.overrides d.queues d.newest (none_nil d.overrides parts.0) (none_nil d.queues peers.0) (no_newest d.newest peers.1)

row_told : (d e : Draft) (id : List ℕ) (status : Status) → state_more d (line.Row id status) ≡ Ok e → state_lines (state_of e) ≡ state_lines (state_of d) ++ line.Row id status ∷ []
row_told d e id status is =
    let so = if_ok (has_no_peers d) (record d { overrides = d.overrides ++ (id, status) ∷ [] }) e is in
    let peers = and_parts (has_none d.queues) (not (is_some d.newest)) so.0 in
    ap (λ (x : Draft). state_lines (state_of x)) (sym so.1) ∙ row_lines d.head d.leases d.overrides (id, status) d.queues d.newest (none_nil d.queues peers.0) (no_newest d.newest peers.1)

peer_told : (d : Draft) → state_lines (state_of (record d { queues = d.queues ++ option_to_list d.newest; newest = Some idle })) ≡ state_lines (state_of d) ++ line.Peer ∷ []
peer_told d = rw (queues_lines-append (d.queues ++ option_to_list d.newest) (idle ∷ [])) (simp append_assoc)

-- one line more of the last peer
queue_told : (qs : List Queue) (q more : Queue) (l : JournalLine) → queue_lines more ≡ queue_lines q ++ l ∷ [] → queues_lines (qs ++ more ∷ []) ≡ queues_lines (qs ++ q ∷ []) ++ l ∷ []
queue_told [] q more l lines = append-nil (queue_lines more) ∙ lines ∙ ap (λ (ls : List JournalLine). ls ++ l ∷ []) (sym (append-nil (queue_lines q)))
queue_told (x ∷ qs) q more l lines =
    ap (λ (ls : List JournalLine). queue_lines x ++ ls) (queue_told qs q more l lines) ∙ sym (append_assoc (queue_lines x) (queues_lines (qs ++ q ∷ [])) (l ∷ []))

behind_both : (a b c : List JournalLine) (l : JournalLine) → a ++ (b ++ (c ++ l ∷ [])) ≡ (a ++ (b ++ c)) ++ l ∷ []
behind_both a b c l = simp append_assoc

-- one line more of the newest peer
newest_told : (d : Draft) (q more : Queue) (l : JournalLine) → d.newest ≡ Some q → queue_lines more ≡ queue_lines q ++ l ∷ []
    → state_lines (state_of (record d { newest = Some more })) ≡ state_lines (state_of d) ++ l ∷ []
newest_told d q more l is lines =
    let grown : queues_lines (d.queues ++ more ∷ []) ≡ queues_lines (d.queues ++ option_to_list d.newest) ++ l ∷ [] =
    queue_told d.queues q more l lines ∙ ap (λ (o : Option Queue). queues_lines (d.queues ++ option_to_list o) ++ l ∷ []) (sym is) in
    ap (λ (ls : List JournalLine). line.Head d.head ∷ (map line.Lease d.leases ++ (map row_line d.overrides ++ ls))) grown
    ∙ behind_both (line.Head d.head ∷ map line.Lease d.leases) (map row_line d.overrides) (queues_lines (d.queues ++ option_to_list d.newest)) l

waiting_lines : (ws fs : List Task) (t : Task) → fs ≡ [] → queue_lines (record { waiting = ws ++ t ∷ []; flight = fs }) ≡ queue_lines (record { waiting = ws; flight = fs }) ++ line.Waiting t ∷ []
waiting_lines ws [] t none = ap (λ (xs : List JournalLine). line.Peer ∷ xs) (one_more line.Waiting ws t)
waiting_lines ws (f ∷ fs) t none = cc

waits_told : (o : Option Queue) (t : Task) (more : Queue) → waits_more o t ≡ Ok more → (q : Queue) × (o ≡ Some q) × (queue_lines more ≡ queue_lines q ++ line.Waiting t ∷ [])
waits_told None t more is = cc
waits_told (Some q) t more is =
    let so = if_ok (has_none q.flight) (record q { waiting = q.waiting ++ t ∷ [] }) more is in
    (q, refl, ap queue_lines (sym so.1) ∙ waiting_lines q.waiting q.flight t (none_nil q.flight so.0))

flies_told : (o : Option Queue) (t : Task) (more : Queue) → flies_more o t ≡ Ok more → (q : Queue) × (o ≡ Some q) × (queue_lines more ≡ queue_lines q ++ line.Flight t ∷ [])
flies_told None t more is = cc
flies_told (Some q) t more is =
    let same : record q { flight = q.flight ++ t ∷ [] } ≡ more = cc in
    (q, refl, rw (← same, map-append line.Flight q.flight (t ∷ [])) (simp append_assoc))

state_told : (d e : Draft) (l : JournalLine) → state_more d l ≡ Ok e → state_lines (state_of e) ≡ state_lines (state_of d) ++ l ∷ []
state_told d e (line.Lease l) is = lease_told d e l is
state_told d e (line.Row id status) is = row_told d e id status is
state_told d e line.Peer is =
    let same : record d { queues = d.queues ++ option_to_list d.newest; newest = Some idle } ≡ e = cc in
    ap (λ (x : Draft). state_lines (state_of x)) (sym same) ∙ peer_told d
state_told d e (line.Waiting t) is =
    let step = bind_ok (waits_more d.newest t) (λ q. Ok (record d { newest = Some q })) e is in
    let same : record d { newest = Some step.0 } ≡ e = cc in
    let waits = waits_told d.newest t step.0 step.1 in
    ap (λ (x : Draft). state_lines (state_of x)) (sym same) ∙ newest_told d waits.0 step.0 (line.Waiting t) waits.1 waits.2
state_told d e (line.Flight t) is =
    let step = bind_ok (flies_more d.newest t) (λ q. Ok (record d { newest = Some q })) e is in
    let same : record d { newest = Some step.0 } ≡ e = cc in
    let flies = flies_told d.newest t step.0 step.1 in
    ap (λ (x : Draft). state_lines (state_of x)) (sym same) ∙ newest_told d flies.0 step.0 (line.Flight t) flies.1 flies.2
state_told d e (line.Head h) is = cc
state_told d e (line.Asked pass number moment command) is = cc
state_told d e (line.Answered r) is = cc
state_told d e (line.Victim k) is = cc
state_told d e (line.Sent t) is = cc
state_told d e (line.Digest text) is = cc

-- ---- an entry

answered_told : (a : Asked) (r : Reply) → bared (entry_lines (answered a r)) ≡ asked_line a ∷ (line.Answered (bare r) ∷ [])
answered_told a (reply.Evicted keys) = refl
answered_told a (reply.Batch tasks) = refl
answered_told a (reply.Registered fresh) = refl
answered_told a reply.Done = refl
answered_told a reply.NotFound = refl
answered_told a reply.Stale = refl
answered_told a (reply.Conflict i) = refl
answered_told a (reply.Last n) = refl
answered_told a (reply.Expected n) = refl
answered_told a reply.Settled = refl

-- the lines of a reply, one more
reply_told : (r more : Reply) (l : JournalLine) → reply_more r l ≡ Ok more
    → bared (line.Answered more ∷ reply_lines more) ≡ bared (line.Answered r ∷ reply_lines r) ++ bare_line l ∷ []
reply_told (reply.Evicted keys) more (line.Victim k) is =
    let same : reply.Evicted (keys ++ k ∷ []) ≡ more = cc in
    rw (← same, map-append line.Victim keys (k ∷ []), map-append bare_line (map line.Victim keys) (line.Victim k ∷ [])) refl
reply_told (reply.Evicted keys) more (line.Sent t) is = cc
reply_told (reply.Evicted keys) more (line.Head h) is = cc
reply_told (reply.Evicted keys) more (line.Lease l) is = cc
reply_told (reply.Evicted keys) more (line.Row id status) is = cc
reply_told (reply.Evicted keys) more line.Peer is = cc
reply_told (reply.Evicted keys) more (line.Waiting t) is = cc
reply_told (reply.Evicted keys) more (line.Flight t) is = cc
reply_told (reply.Evicted keys) more (line.Asked pass number moment command) is = cc
reply_told (reply.Evicted keys) more (line.Answered r) is = cc
reply_told (reply.Evicted keys) more (line.Digest text) is = cc
reply_told (reply.Batch tasks) more (line.Sent t) is =
    let same : reply.Batch (tasks ++ t ∷ []) ≡ more = cc in
    rw (← same, map-append line.Sent tasks (t ∷ []), map-append bare_line (map line.Sent tasks) (line.Sent t ∷ [])) refl
reply_told (reply.Batch tasks) more (line.Victim k) is = cc
reply_told (reply.Batch tasks) more (line.Head h) is = cc
reply_told (reply.Batch tasks) more (line.Lease l) is = cc
reply_told (reply.Batch tasks) more (line.Row id status) is = cc
reply_told (reply.Batch tasks) more line.Peer is = cc
reply_told (reply.Batch tasks) more (line.Waiting t) is = cc
reply_told (reply.Batch tasks) more (line.Flight t) is = cc
reply_told (reply.Batch tasks) more (line.Asked pass number moment command) is = cc
reply_told (reply.Batch tasks) more (line.Answered r) is = cc
reply_told (reply.Batch tasks) more (line.Digest text) is = cc
reply_told (reply.Registered fresh) more l is = cc
reply_told reply.Done more l is = cc
reply_told reply.NotFound more l is = cc
reply_told reply.Stale more l is = cc
reply_told (reply.Conflict i) more l is = cc
reply_told (reply.Last n) more l is = cc
reply_told (reply.Expected n) more l is = cc
reply_told reply.Settled more l is = cc

entry_told : (e more : Entry) (l : JournalLine) → entry_more e l ≡ Ok more → bared (entry_lines more) ≡ bared (entry_lines e) ++ bare_line l ∷ []
entry_told e more l is =
    let step = bind_ok (reply_more e.reply l) (λ r. Ok (record e { reply = r })) more is in
    let same : record e { reply = step.0 } ≡ more = cc in
    ap (λ (x : Entry). bared (entry_lines x)) (sym same)
    ∙ ap (λ (ls : List JournalLine). line.Asked e.pass e.number e.moment e.command ∷ ls) (reply_told e.reply step.0 l step.1)

-- ---- a line

-- it isn't sealed
abbrev pub IsOpen : Stage → Type 0
IsOpen (stage.Sealed f d) = ⊥
IsOpen _ = Unit {0}

-- A line was told: a digest seals, any other is one line more
pub data Told (s : Stage) (l : JournalLine) (t : Stage) : Type 0 where
  seals : (f : Front) (d : Draft) (text : List ℕ) → s ≡ stage.End f d → l ≡ line.Digest text → t ≡ stage.Sealed f d → Told s l t
  adds : IsOpen t → bared (stage_lines t) ≡ bared (stage_lines s) ++ bare_line l ∷ [] → Told s l t

-- behind what was told
behind : (front xs ys : List JournalLine) (l : JournalLine) → bared ys ≡ bared xs ++ l ∷ [] → bared (front ++ ys) ≡ bared (front ++ xs) ++ l ∷ []
behind front xs ys l is = rw (bared-append front ys, bared-append front xs, is) (sym (append_assoc (bared front) (bared xs) (l ∷ [])))

-- one line more of a state
state_adds : (d e : Draft) (l : JournalLine) → state_more d l ≡ Ok e → bared (state_lines (state_of e)) ≡ bared (state_lines (state_of d)) ++ bare_line l ∷ []
state_adds d e l is = ap bared (state_told d e l is) ∙ bared-append (state_lines (state_of d)) (l ∷ [])

of_state_told : (s t : Stage) (l : JournalLine) → take_of_state s l ≡ Ok t → Told s l t
of_state_told (stage.Base d) t l is =
    let step = bind_ok (state_more d l) (λ more. Ok (stage.Base more)) t is in
    let same : stage.Base step.0 ≡ t = cc in
    rw (← same) (adds tt (state_adds d step.0 l step.1))
of_state_told (stage.End f d) t l is =
    let step = bind_ok (state_more d l) (λ more. Ok (stage.End f more)) t is in
    let same : stage.End f step.0 ≡ t = cc in
    rw (← same) (adds tt (behind (front_lines f) (state_lines (state_of d)) (state_lines (state_of step.0)) (bare_line l) (state_adds d step.0 l step.1)))
of_state_told stage.Empty t l is = cc
of_state_told (stage.Asked f a) t l is = cc
of_state_told (stage.Answered f e) t l is = cc
of_state_told (stage.Sealed f d) t l is = cc

of_entry_told : (s t : Stage) (l : JournalLine) → take_of_entry s l ≡ Ok t → Told s l t
of_entry_told (stage.Answered f e) t l is =
    let step = bind_ok (entry_more e l) (λ more. Ok (stage.Answered f more)) t is in
    let same : stage.Answered f step.0 ≡ t = cc in
    rw (← same) (adds tt (behind (front_lines f) (entry_lines e) (entry_lines step.0) (bare_line l) (entry_told e step.0 l step.1)))
of_entry_told stage.Empty t l is = cc
of_entry_told (stage.Base d) t l is = cc
of_entry_told (stage.Asked f a) t l is = cc
of_entry_told (stage.End f d) t l is = cc
of_entry_told (stage.Sealed f d) t l is = cc

-- a state's first line after the base and the entries
end_told : (s t : Stage) (h : Head) → closed s >>= (λ f. Ok (stage.End f (begun h))) ≡ Ok t → Told s (line.Head h) t
end_told s t h is =
    let step = bind_ok (closed s) (λ f. Ok (stage.End f (begun h))) t is in
    let same : stage.End step.0 (begun h) ≡ t = cc in
    rw (← same) (adds tt (bared-append (front_lines step.0) (line.Head h ∷ []) ∙ ap (λ (ls : List JournalLine). bared ls ++ line.Head h ∷ []) (closed_told s step.0 step.1)))

head_told : (s t : Stage) (h : Head) → take_head s h ≡ Ok t → Told s (line.Head h) t
head_told stage.Empty t h is =
    let same : stage.Base (begun h) ≡ t = cc in
    rw (← same) (adds tt refl)
head_told (stage.Base d) t h is = end_told (stage.Base d) t h is
head_told (stage.Asked f a) t h is = end_told (stage.Asked f a) t h is
head_told (stage.Answered f e) t h is = end_told (stage.Answered f e) t h is
head_told (stage.End f d) t h is = end_told (stage.End f d) t h is
head_told (stage.Sealed f d) t h is = end_told (stage.Sealed f d) t h is

asked_told : (s t : Stage) (a : Asked) → closed s >>= (λ f. Ok (stage.Asked f a)) ≡ Ok t → Told s (asked_line a) t
asked_told s t a is =
    let step = bind_ok (closed s) (λ f. Ok (stage.Asked f a)) t is in
    let same : stage.Asked step.0 a ≡ t = cc in
    rw (← same) (adds tt (bared-append (front_lines step.0) (asked_line a ∷ []) ∙ ap (λ (ls : List JournalLine). bared ls ++ asked_line a ∷ []) (closed_told s step.0 step.1)))

reply_line_told : (s t : Stage) (r : Reply) → take_line s (line.Answered r) ≡ Ok t → Told s (line.Answered r) t
reply_line_told (stage.Asked f a) t r is =
    let same : stage.Answered f (answered a r) ≡ t = cc in
    rw (← same) (adds tt (behind (front_lines f) (asked_line a ∷ []) (entry_lines (answered a r)) (line.Answered (bare r)) (answered_told a r)))
reply_line_told stage.Empty t r is = cc
reply_line_told (stage.Base d) t r is = cc
reply_line_told (stage.Answered f e) t r is = cc
reply_line_told (stage.End f d) t r is = cc
reply_line_told (stage.Sealed f d) t r is = cc

seal_told : (s t : Stage) (text : List ℕ) → take_line s (line.Digest text) ≡ Ok t → Told s (line.Digest text) t
seal_told (stage.End f d) t text is =
    let same : t ≡ stage.Sealed f d = cc in
    seals f d text refl refl same
seal_told stage.Empty t text is = cc
seal_told (stage.Base d) t text is = cc
seal_told (stage.Asked f a) t text is = cc
seal_told (stage.Answered f e) t text is = cc
seal_told (stage.Sealed f d) t text is = cc

pub take_told : (s t : Stage) (l : JournalLine) → take_line s l ≡ Ok t → Told s l t
take_told s t (line.Head h) is = head_told s t h is
take_told s t (line.Lease l) is = of_state_told s t (line.Lease l) is
take_told s t (line.Row id status) is = of_state_told s t (line.Row id status) is
take_told s t line.Peer is = of_state_told s t line.Peer is
take_told s t (line.Waiting task) is = of_state_told s t (line.Waiting task) is
take_told s t (line.Flight task) is = of_state_told s t (line.Flight task) is
take_told s t (line.Asked pass number moment command) is = asked_told s t (record { pass = pass; number = number; moment = moment; command = command }) is
take_told s t (line.Answered r) is = reply_line_told s t r is
take_told s t (line.Victim k) is = of_entry_told s t (line.Victim k) is
take_told s t (line.Sent task) is = of_entry_told s t (line.Sent task) is
take_told s t (line.Digest text) is = seal_told s t text is
