-- The lines of a journal lead to its end
use Rattle.std.proofs.Common.{◌≡◌, ℕ, List, [], ◌∷◌, ◌++◌, map, Option, Some, None, Result, Ok, refl, ap, ◌∙◌, append_assoc, append-nil}
use Rattle.std.specs.Prelude.{option_to_list}
use Rattle.eu_base.specs.declared.names.Key.{Key}
use Rattle.eu_base.specs.declared.statuses.Status.{Status}
use Rattle.eu_base.specs.declared.tasks.Task.{Task}
use Rattle.eu_base.specs.Gives.{◌>>=◌}
use Rattle.eu_journal_values.specs.declared.faults.LineFault.{LineFault}
use Rattle.eu_journal.specs.declared.lines.Head.{Head}
use Rattle.eu_journal.specs.declared.lines.JournalLine.{JournalLine}
use Rattle.eu_journal.specs.declared.lines.JournalLine.TheVariants as line
use Rattle.eu_journal_text.specs.Text.{entries_lines, entry_lines, head_of, journal_lines, queue_lines, queues_lines, reply_lines, row_line, state_lines}
use Rattle.eu_model.specs.declared.commands.Entry.{Entry}
use Rattle.eu_model.specs.declared.commands.Reply.{Reply}
use Rattle.eu_model.specs.declared.commands.Reply.TheVariants as reply
use Rattle.eu_model.specs.declared.queues.Queue.{Queue}
use Rattle.eu_model.specs.declared.states.State.{State}
use Rattle.eu_model.specs.declared.views.Listed.{Listed}
use Rattle.eu_model.specs.Server.{idle}
use Rattle.eu_journal_read.specs.Drafts.{Draft, begun, entry_of, state_more, state_of}
use Rattle.eu_journal_read.specs.Front.{Front}
use Rattle.eu_journal_read.specs.Stages.{closed, take_line}
use Rattle.eu_journal_read.specs.declared.entries.Asked.{Asked}
use Rattle.eu_journal_read.specs.declared.stages.Stage.{Stage}
use Rattle.eu_journal_read.specs.declared.stages.Stage.TheVariants as stage
use Rattle.eu_journal_read.proofs.RunLemmas.{bind_of, bind_ok, run, run_both, run_next}

-- ---- a state

-- the draft after these lines
abbrev pub drafted : Draft → List JournalLine → Result Draft LineFault
drafted d [] = Ok d
drafted d (l ∷ ls) = state_more d l >>= (λ e. drafted e ls)

drafted_both : (d e f : Draft) (xs ys : List JournalLine) → drafted d xs ≡ Ok e → drafted e ys ≡ Ok f → drafted d (xs ++ ys) ≡ Ok f
drafted_both d e f [] ys first rest = let same : d ≡ e = cc in ap (λ (x : Draft). drafted x ys) same ∙ rest
drafted_both d e f (x ∷ xs) ys first rest =
    let step = bind_ok (state_more d x) (λ u. drafted u xs) e first in
    rw (step.1) (drafted_both step.0 e f xs ys step.2 rest)

leases_drafted : (h : Head) (xs ls : List Listed)
    → drafted (record { head = h; leases = xs; overrides = []; queues = []; newest = None }) (map line.Lease ls) ≡ Ok (record { head = h; leases = xs ++ ls; overrides = []; queues = []; newest = None })
leases_drafted h xs [] = rw append-nil refl
leases_drafted h xs (l ∷ ls) = leases_drafted h (xs ++ l ∷ []) ls ∙ rw append_assoc refl

rows_drafted : (h : Head) (xs : List Listed) (rs ls : List (List ℕ × Status))
    → drafted (record { head = h; leases = xs; overrides = rs; queues = []; newest = None }) (map row_line ls) ≡ Ok (record { head = h; leases = xs; overrides = rs ++ ls; queues = []; newest = None })
rows_drafted h xs rs [] = rw append-nil refl
rows_drafted h xs rs (r ∷ ls) = rows_drafted h xs (rs ++ r ∷ []) ls ∙ rw append_assoc refl

module _ (h : Head) (xs : List Listed) (rs : List (List ℕ × Status)) where
  abbrev busy : List Queue → Queue → Draft
  busy qs q = record { head = h; leases = xs; overrides = rs; queues = qs; newest = Some q }

  waiting_drafted : (qs : List Queue) (ws ts : List Task) → drafted (busy qs (record { waiting = ws; flight = [] })) (map line.Waiting ts) ≡ Ok (busy qs (record { waiting = ws ++ ts; flight = [] }))
  waiting_drafted qs ws [] = rw append-nil refl
  waiting_drafted qs ws (t ∷ ts) = waiting_drafted qs (ws ++ t ∷ []) ts ∙ rw append_assoc refl

  flight_drafted : (qs : List Queue) (ws fs ts : List Task) → drafted (busy qs (record { waiting = ws; flight = fs })) (map line.Flight ts) ≡ Ok (busy qs (record { waiting = ws; flight = fs ++ ts }))
  flight_drafted qs ws fs [] = rw append-nil refl
  flight_drafted qs ws fs (t ∷ ts) = flight_drafted qs ws (fs ++ t ∷ []) ts ∙ rw append_assoc refl

  queue_drafted : (qs : List Queue) (o : Option Queue) (q : Queue)
      → drafted (record { head = h; leases = xs; overrides = rs; queues = qs; newest = o }) (queue_lines q) ≡ Ok (busy (qs ++ option_to_list o) q)
  queue_drafted qs o q =
      drafted_both (busy (qs ++ option_to_list o) idle) (busy (qs ++ option_to_list o) (record { waiting = q.waiting; flight = [] })) (busy (qs ++ option_to_list o) q) (map line.Waiting q.waiting) (map line.Flight q.flight)
      (waiting_drafted (qs ++ option_to_list o) [] q.waiting) (flight_drafted (qs ++ option_to_list o) q.waiting [] q.flight)

  queues_drafted : (qs : List Queue) (o : Option Queue) (more : List Queue)
      → (d : Draft) × (drafted (record { head = h; leases = xs; overrides = rs; queues = qs; newest = o }) (queues_lines more) ≡ Ok d)
      × (state_of d ≡ state_of (record { head = h; leases = xs; overrides = rs; queues = (qs ++ option_to_list o) ++ more; newest = None }))
  queues_drafted qs o [] = (record { head = h; leases = xs; overrides = rs; queues = qs; newest = o }, refl, rw (append-nil (qs ++ option_to_list o), append-nil (qs ++ option_to_list o)) refl)
  queues_drafted qs o (q ∷ more) =
      let rest = queues_drafted (qs ++ option_to_list o) (Some q) more in (
        rest.0,
        drafted_both (record { head = h; leases = xs; overrides = rs; queues = qs; newest = o }) (busy (qs ++ option_to_list o) q) rest.0 (queue_lines q) (queues_lines more) (queue_drafted qs o q) rest.1,
        rest.2 ∙ rw (append_assoc (qs ++ option_to_list o) (q ∷ []) more) refl,
      )

-- the lines of a state after its first
abbrev rest_lines : State → List JournalLine
rest_lines s = map line.Lease s.leases ++ (map row_line s.overrides ++ queues_lines s.queues)

state_drafted : (s : State) → (d : Draft) × (drafted (begun (head_of s)) (rest_lines s) ≡ Ok d) × (state_of d ≡ s)
state_drafted s =
    let queues = queues_drafted (head_of s) s.leases s.overrides [] None s.queues in
    let overrides : Draft = record { head = head_of s; leases = s.leases; overrides = s.overrides; queues = []; newest = None } in
    let leases : Draft = record { head = head_of s; leases = s.leases; overrides = []; queues = []; newest = None } in (
      queues.0,
      drafted_both (begun (head_of s)) leases queues.0 (map line.Lease s.leases) (map row_line s.overrides ++ queues_lines s.queues) (leases_drafted (head_of s) [] s.leases)
          (drafted_both leases overrides queues.0 (map row_line s.overrides) (queues_lines s.queues) (rows_drafted (head_of s) s.leases [] s.overrides) queues.1),
      queues.2 ∙ rw append-nil refl,
    )

-- ---- a state within a journal

base_more : (d e : Draft) (l : JournalLine) → state_more d l ≡ Ok e → take_line (stage.Base d) l ≡ Ok (stage.Base e)
base_more d e (line.Head h) is = cc
base_more d e (line.Lease l) is = bind_of (state_more d (line.Lease l)) (λ more. Ok (stage.Base more)) e is
base_more d e (line.Row id status) is = bind_of (state_more d (line.Row id status)) (λ more. Ok (stage.Base more)) e is
base_more d e line.Peer is = bind_of (state_more d line.Peer) (λ more. Ok (stage.Base more)) e is
base_more d e (line.Waiting t) is = bind_of (state_more d (line.Waiting t)) (λ more. Ok (stage.Base more)) e is
base_more d e (line.Flight t) is = bind_of (state_more d (line.Flight t)) (λ more. Ok (stage.Base more)) e is
base_more d e (line.Asked pass number moment command) is = cc
base_more d e (line.Answered r) is = cc
base_more d e (line.Victim k) is = cc
base_more d e (line.Sent t) is = cc
base_more d e (line.Digest text) is = cc

end_more : (f : Front) (d e : Draft) (l : JournalLine) → state_more d l ≡ Ok e → take_line (stage.End f d) l ≡ Ok (stage.End f e)
end_more f d e (line.Head h) is = cc
end_more f d e (line.Lease l) is = bind_of (state_more d (line.Lease l)) (λ more. Ok (stage.End f more)) e is
end_more f d e (line.Row id status) is = bind_of (state_more d (line.Row id status)) (λ more. Ok (stage.End f more)) e is
end_more f d e line.Peer is = bind_of (state_more d line.Peer) (λ more. Ok (stage.End f more)) e is
end_more f d e (line.Waiting t) is = bind_of (state_more d (line.Waiting t)) (λ more. Ok (stage.End f more)) e is
end_more f d e (line.Flight t) is = bind_of (state_more d (line.Flight t)) (λ more. Ok (stage.End f more)) e is
end_more f d e (line.Asked pass number moment command) is = cc
end_more f d e (line.Answered r) is = cc
end_more f d e (line.Victim k) is = cc
end_more f d e (line.Sent t) is = cc
end_more f d e (line.Digest text) is = cc

base_run : (d e : Draft) (ls : List JournalLine) → drafted d ls ≡ Ok e → run (stage.Base d) ls ≡ Ok (stage.Base e)
base_run d e [] is = let same : d ≡ e = cc in ap (λ (x : Draft). Ok (stage.Base x)) same
base_run d e (l ∷ ls) is =
    let step = bind_ok (state_more d l) (λ u. drafted u ls) e is in
    run_next (stage.Base d) (stage.Base step.0) (stage.Base e) l ls (base_more d step.0 l step.1) (base_run step.0 e ls step.2)

end_run : (f : Front) (d e : Draft) (ls : List JournalLine) → drafted d ls ≡ Ok e → run (stage.End f d) ls ≡ Ok (stage.End f e)
end_run f d e [] is = let same : d ≡ e = cc in ap (λ (x : Draft). Ok (stage.End f x)) same
end_run f d e (l ∷ ls) is =
    let step = bind_ok (state_more d l) (λ u. drafted u ls) e is in
    run_next (stage.End f d) (stage.End f step.0) (stage.End f e) l ls (end_more f d step.0 l step.1) (end_run f step.0 e ls step.2)

-- ---- entries

module _ (f : Front) (a : Asked) where
  abbrev within : Reply → Stage
  within r = stage.Answered f (entry_of a r)

  victims_run : (keys more : List Key) → run (within (reply.Evicted keys)) (map line.Victim more) ≡ Ok (within (reply.Evicted (keys ++ more)))
  victims_run keys [] = rw append-nil refl
  victims_run keys (k ∷ more) = victims_run (keys ++ k ∷ []) more ∙ rw append_assoc refl

  tasks_run : (tasks more : List Task) → run (within (reply.Batch tasks)) (map line.Sent more) ≡ Ok (within (reply.Batch (tasks ++ more)))
  tasks_run tasks [] = rw append-nil refl
  tasks_run tasks (t ∷ more) = tasks_run (tasks ++ t ∷ []) more ∙ rw append_assoc refl

  reply_run : (r : Reply) → run (stage.Asked f a) (line.Answered r ∷ reply_lines r) ≡ Ok (within r)
  reply_run (reply.Evicted keys) = victims_run [] keys
  reply_run (reply.Batch tasks) = tasks_run [] tasks
  reply_run (reply.Registered fresh) = refl
  reply_run reply.Done = refl
  reply_run reply.NotFound = refl
  reply_run reply.Stale = refl
  reply_run (reply.Conflict i) = refl
  reply_run (reply.Last n) = refl
  reply_run (reply.Expected n) = refl
  reply_run reply.Settled = refl

entry_run : (s : Stage) (f : Front) (e : Entry) → closed s ≡ Ok f → run s (entry_lines e) ≡ Ok (stage.Answered f e)
entry_run s f e is =
    let a : Asked = record { pass = e.pass; number = e.number; moment = e.moment; command = e.command } in
    run_next s (stage.Asked f a) (stage.Answered f e) (line.Asked e.pass e.number e.moment e.command) (line.Answered e.reply ∷ reply_lines e.reply) (bind_of (closed s) (λ g. Ok (stage.Asked g a)) f is) (reply_run f a e.reply)

entries_run : (s : Stage) (f : Front) (es : List Entry) → closed s ≡ Ok f
    → (t : Stage) × (run s (entries_lines es) ≡ Ok t) × (closed t ≡ Ok (record { base = f.base; entries = f.entries ++ es }))
entries_run s f [] is = (s, refl, rw append-nil is)
entries_run s f (e ∷ es) is =
    let rest = entries_run (stage.Answered f e) (record { base = f.base; entries = f.entries ++ e ∷ [] }) es refl in (
      rest.0,
      run_both s (stage.Answered f e) rest.0 (entry_lines e) (entries_lines es) (entry_run s f e is) rest.1,
      rest.2 ∙ rw append_assoc refl,
    )

-- ---- the whole

head_run : (s : Stage) (f : Front) (h : Head) → closed s ≡ Ok f → take_line s (line.Head h) ≡ Ok (stage.End f (begun h))
head_run stage.Empty f h is = cc
head_run (stage.Base d) f h is = bind_of (closed (stage.Base d)) (λ g. Ok (stage.End g (begun h))) f is
head_run (stage.Asked g a) f h is = cc
head_run (stage.Answered g e) f h is = bind_of (closed (stage.Answered g e)) (λ g. Ok (stage.End g (begun h))) f is
head_run (stage.End g d) f h is = cc
head_run (stage.Sealed g d) f h is = cc

-- where a journal's lines lead
pub record Ends (base : State) (entries : List Entry) (end : State) : Type 0 where
  pub front : Front
  pub draft : Draft
  pub runs : run stage.Empty (journal_lines base entries end) ≡ Ok (stage.End front draft)
  pub base_is : state_of front.base ≡ base
  pub entries_are : front.entries ≡ entries
  pub end_is : state_of draft ≡ end

pub journal_ends : (base : State) (entries : List Entry) (end : State) → Ends base entries end
journal_ends base entries end =
    let first = state_drafted base in
    let last = state_drafted end in
    let middle = entries_run (stage.Base first.0) (record { base = first.0; entries = [] }) entries refl in
    let f : Front = record { base = first.0; entries = entries } in
    let in_base : run stage.Empty (state_lines base) ≡ Ok (stage.Base first.0) = base_run (begun (head_of base)) first.0 (rest_lines base) first.1 in
    let in_end : run middle.0 (state_lines end) ≡ Ok (stage.End f last.0) =
    run_next middle.0 (stage.End f (begun (head_of end))) (stage.End f last.0) (line.Head (head_of end)) (rest_lines end) (head_run middle.0 f (head_of end) middle.2) (end_run f (begun (head_of end)) last.0 (rest_lines end) last.1) in
    record {
      front = f;
      draft = last.0;
      runs = run_both stage.Empty (stage.Base first.0) (stage.End f last.0) (state_lines base) (entries_lines entries ++ state_lines end) in_base
          (run_both (stage.Base first.0) middle.0 (stage.End f last.0) (entries_lines entries) (state_lines end) middle.1 in_end);
      base_is = first.2;
      entries_are = refl;
      end_is = last.2;
    }
