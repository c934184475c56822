-- Lines that were written are read as they were
use Rattle.std.proofs.Common.{◌≡◌, Ok, codes, ◌∙◌, refl}
use Rattle.serde_json.specs.View.{items_of}
use Rattle.std.proofs.Common.{map}
use Rattle.eu_model.specs.declared.commands.Command.{Command}
use Rattle.eu_model.specs.declared.commands.Command.TheVariants as command
use Rattle.eu_model.specs.declared.commands.Reply.{Reply}
use Rattle.eu_model.specs.declared.commands.Reply.TheVariants as reply
use Rattle.eu_journal.specs.Law.{LinesComeBack, bare}
use Rattle.eu_journal_values.specs.Commands.{IsCommand, adopt_of, cancel_of, codes_of, command_of, drain_of, landed_of, lost_of, reconfigure_of, register_of, renew_of, set_status_of, unset_status_of, command_rest, command_tree}
use Rattle.eu_journal_values.specs.Replies.{IsReply, conflict_of, expected_of, last_of, registered_of, reply_of, reply_rest, reply_tree}
use Rattle.eu_journal.specs.LineReading.{answered_line, asked_line, digest_line, flight_line, head_line, head_of, lease_line, line_of, row_line, sent_line, task_in, victim_line, waiting_line}
use Rattle.eu_journal.specs.Lines.{line_tree}
use Rattle.eu_journal_values.specs.Members.{below_32, moment_in, moment_of, optional_in, stamp_in, status_in}
use Rattle.eu_journal_values.specs.Reading.{config_from, instance_in, key_in, name_of, times_of}
use Rattle.eu_journal_values.proofs.BackLemmas.{codes_back, config_back, instance_back, key_back, moment_back, name_back, optional_moment_back, optional_stamp_back, optional_status_back, small_back, status_back, step, task_back}
use Rattle.eu_journal_values.specs.Trees.{config_tree, whole_number}
use Rattle.eu_journal.specs.declared.lines.JournalLine.TheVariants as line

-- ---- commands

pub command_back : (c : Command) → IsCommand c → command_of (command_rest c) (command_tree c) ≡ Ok c
unfolding command_of register_of renew_of cancel_of set_status_of unset_status_of adopt_of reconfigure_of drain_of landed_of lost_of
command_back (command.Register i replicated) is =
    let tree = command_tree (command.Register i replicated) in
    step (instance_in i.rest tree) _ i (instance_back tree i refl is)
command_back (command.Renew k last_dirty overridden replicated) is =
    let tree = command_tree (command.Renew k last_dirty overridden replicated) in
    step (key_in tree) _ k (key_back tree k refl is.0)
    ∙ step (optional_in stamp_in (codes "dirty") tree) _ last_dirty (optional_stamp_back (codes "dirty") tree last_dirty refl is.1)
    ∙ step (optional_in status_in (codes "overridden") tree) _ overridden (optional_status_back (codes "overridden") tree overridden refl)
command_back (command.Cancel k replicated) is =
    let tree = command_tree (command.Cancel k replicated) in
    step (key_in tree) _ k (key_back tree k refl is)
command_back (command.SetStatus k status last_dirty replicated) is =
    let tree = command_tree (command.SetStatus k status last_dirty replicated) in
    step (key_in tree) _ k (key_back tree k refl is.0)
    ∙ step (status_in (codes "status") tree) _ status (status_back status)
    ∙ step (optional_in stamp_in (codes "dirty") tree) _ last_dirty (optional_stamp_back (codes "dirty") tree last_dirty refl is.1)
command_back (command.UnsetStatus k status last_dirty replicated) is =
    let tree = command_tree (command.UnsetStatus k status last_dirty replicated) in
    step (key_in tree) _ k (key_back tree k refl is.0)
    ∙ step (optional_in status_in (codes "status") tree) _ status (optional_status_back (codes "status") tree status refl)
    ∙ step (optional_in stamp_in (codes "dirty") tree) _ last_dirty (optional_stamp_back (codes "dirty") tree last_dirty refl is.1)
command_back (command.Adopt i) is =
    let tree = command_tree (command.Adopt i) in
    step (instance_in i.rest tree) _ i (instance_back tree i refl is)
command_back command.EndMinute is = refl
command_back command.Update is = refl
command_back (command.Reconfigure config) is = step (config_from (config_tree config)) _ config (config_back config is)
command_back command.Evict is = refl
command_back (command.Drain peer) is = step (below_32 peer) _ peer (small_back peer is)
command_back (command.Landed peer answers) is =
    step (below_32 peer) _ peer (small_back peer is.0)
    ∙ step (codes_of (items_of (map whole_number answers))) _ answers (codes_back answers is.1)
command_back (command.Lost peer) is = step (below_32 peer) _ peer (small_back peer is)

-- ---- replies

pub reply_back : (r : Reply) → IsReply r → reply_of (reply_rest r) (reply_tree r) ≡ Ok (bare r)
unfolding reply_of registered_of conflict_of last_of expected_of
reply_back (reply.Registered fresh) is = refl
reply_back reply.Done is = refl
reply_back reply.NotFound is = refl
reply_back reply.Stale is = refl
reply_back (reply.Conflict i) is =
    let tree = reply_tree (reply.Conflict i) in
    step (instance_in i.rest tree) _ i (instance_back tree i refl is)
reply_back (reply.Last renewals) is = refl
reply_back (reply.Expected clients) is = refl
reply_back (reply.Evicted victims) is = refl
reply_back (reply.Batch tasks) is = refl
reply_back reply.Settled is = refl

-- ---- lines

pub lines_come_back : LinesComeBack
unfolding line_of head_line head_of lease_line times_of row_line task_in waiting_line flight_line asked_line answered_line victim_line sent_line digest_line
lines_come_back (line.Head h) is =
    let tree = line_tree (line.Head h) in
    step (head_of tree) _ h
    (step (config_from (config_tree h.config)) _ h.config (config_back h.config is.0)
    ∙ step (optional_in moment_in (codes "previous") tree) _ h.previous (optional_moment_back (codes "previous") tree h.previous refl is.1))
lines_come_back (line.Lease l) is =
    let tree = line_tree (line.Lease l) in
    step (instance_in l.instance.rest tree) _ l.instance (instance_back tree l.instance refl is)
lines_come_back (line.Row id status) is =
    let tree = line_tree (line.Row id status) in
    step (name_of id) _ id (name_back id is)
    ∙ step (status_in (codes "status") tree) _ status (status_back status)
lines_come_back line.Peer is = refl
lines_come_back (line.Waiting task) is = step (task_in (line_tree (line.Waiting task))) _ task (task_back task is)
lines_come_back (line.Flight task) is = step (task_in (line_tree (line.Flight task))) _ task (task_back task is)
lines_come_back (line.Asked pass number moment command) is =
    step (moment_of moment) _ moment (moment_back moment is.0)
    ∙ step (command_of (command_rest command) (command_tree command)) _ command (command_back command is.1)
lines_come_back (line.Answered reply) is = step (reply_of (reply_rest reply) (reply_tree reply)) _ (bare reply) (reply_back reply is)
lines_come_back (line.Victim key) is =
    let tree = line_tree (line.Victim key) in
    step (key_in tree) _ key (key_back tree key refl is)
lines_come_back (line.Sent task) is = step (task_in (line_tree (line.Sent task))) _ task (task_back task is)
lines_come_back (line.Digest text) is = refl
