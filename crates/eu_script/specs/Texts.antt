-- What is printed
use Rattle.std.specs.Prelude.{ℕ, List, [], ◌∷◌, length, Option, Some, None, Result, Ok, Err, ◌++◌, codes}
use Rattle.std.specs.Fmt.{decimal}
use Rattle.eu_base.specs.declared.faults.Fault.{Fault}
use Rattle.eu_base.specs.declared.instances.Instance.{Instance}
use Rattle.eu_base.specs.declared.names.Key.{Key}
use Rattle.eu_base.specs.declared.tasks.Task.{Task}
use Rattle.eu_base.specs.Values.{action_name, status_name}
use Rattle.eu_base.specs.Fault.{fault_number}
use Rattle.eu_book.specs.declared.book.Receipt.{Receipt}
use Rattle.eu_model.specs.declared.commands.Command.{Command}
use Rattle.eu_model.specs.declared.commands.Command.TheVariants.{Landed, Lost}
use Rattle.eu_model.specs.declared.commands.Reply.{Reply}
use Rattle.eu_model.specs.declared.commands.Reply.TheVariants.{Registered, Done, NotFound, Stale, Conflict, Last, Expected, Evicted, Batch, Settled}
use Rattle.eu_model.specs.declared.views.Counts.{Counts}
use Rattle.eu_model.specs.declared.views.Listed.{Listed}
use Rattle.eu_model.specs.declared.views.Times.{Times}
use Rattle.eu_page.specs.Page.{yes_or_no}

-- keys, one after the other
abbrev pub keys_text : List Key → List ℕ
keys_text [] = []
keys_text (k ∷ ks) = codes " " ++ (k.app ++ (codes " " ++ (k.id ++ keys_text ks)))

-- the printed line of the victims of an eviction
abbrev pub evicted_text : List Key → List ℕ
evicted_text ks = codes "evicted " ++ (decimal (length ks) ++ (keys_text ks ++ codes "\n"))

-- tasks, one after the other: the action and the key of each
abbrev pub tasks_text : List Task → List ℕ
tasks_text [] = []
tasks_text (task ∷ tasks) = codes " " ++ (action_name task.action ++ (codes " " ++ (task.key.app ++ (codes " " ++ (task.key.id ++ tasks_text tasks)))))

-- the printed line of the tasks that go in flight
abbrev pub batch_text : List Task → List ℕ
batch_text tasks = codes "batch " ++ (decimal (length tasks) ++ (tasks_text tasks ++ codes "\n"))

-- the printed line of a command that ends a flight: whether its batch landed or was lost. No other does that
abbrev pub settled_text : Command → List ℕ
settled_text (Landed peer answers) = codes "landed\n"
settled_text (Lost peer) = codes "lost\n"
settled_text _ = []

-- the printed line of a conflict: of the instance that is held, the statuses and the stamp
abbrev pub conflict_text : Instance → List ℕ
conflict_text i =
    codes "409 " ++ (status_name i.status ++ (codes " " ++ (status_name i.overridden ++ (codes " " ++ (decimal i.last_dirty ++ codes "\n")))))

-- The printed line of a reply, by its HTTP status where it has one. `settled` is that of the command, if it ends a flight
abbrev pub reply_text : List ℕ → Reply → List ℕ
reply_text settled (Registered fresh) = codes "204\n"
reply_text settled Done = codes "200\n"
reply_text settled NotFound = codes "404\n"
reply_text settled Stale = codes "404\n"
reply_text settled (Conflict i) = conflict_text i
reply_text settled (Last n) = codes "last " ++ (decimal n ++ codes "\n")
reply_text settled (Expected n) = codes "expected " ++ (decimal n ++ codes "\n")
reply_text settled (Evicted ks) = evicted_text ks
reply_text settled (Batch tasks) = batch_text tasks
reply_text settled Settled = settled

-- the printed line of a command that is refused
abbrev pub refused_text : Fault → List ℕ
refused_text fault = codes "refused " ++ (decimal (fault_number fault) ++ codes "\n")

-- the printed line of the counts
abbrev pub counts_text : Counts → List ℕ
counts_text c =
    codes "held " ++ (decimal c.held ++ (codes " expected " ++ (decimal c.expected ++ (codes " threshold " ++ (decimal c.threshold
    ++ (codes " last " ++ (decimal c.last ++ (codes " permitted " ++ (yes_or_no c.permitted ++ codes "\n")))))))))

-- the printed line of a lease that is looked at
abbrev pub found_text : Instance → Times → List ℕ
found_text i times =
    codes "found " ++ (status_name i.status ++ (codes " " ++ (status_name i.overridden
    ++ (codes " dirty " ++ (decimal i.last_dirty ++ (codes " secs " ++ (decimal i.secs
    ++ (codes " registered " ++ (decimal times.registered ++ (codes " up " ++ (decimal times.up
    ++ (codes " updated " ++ (decimal times.updated ++ codes "\n")))))))))))))

-- the same, or that there is none
abbrev pub look_text : Option Listed → List ℕ
look_text None = codes "404\n"
look_text (Some l) = found_text l.instance l.times

-- the printed line of a command's answer
abbrev pub answer_text : List ℕ → Result Receipt Fault → List ℕ
answer_text settled (Ok receipt) = reply_text settled receipt.reply
answer_text settled (Err fault) = refused_text fault
