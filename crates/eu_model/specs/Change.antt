-- What a step on one lease leaves at its key and its id: the override rule, and a definition for each command
use Rattle.std.specs.Prelude.{Option, Some, None, Bool, true, false, ◌==◌, ℕ, unwrap_or, if◌then◌else◌, ◌+◌, ◌-◌, not, ◌&&◌, ◌||◌, nat_lt, is_some}
use Rattle.eu_base.specs.declared.statuses.Status.{Status}
use Rattle.eu_base.specs.declared.statuses.Status.TheVariants.{Up, Down, Starting, OutOfService, Unknown}
use Rattle.std.specs.Option.{option_map, option_map_or, option_or}
use Rattle.eu_base.specs.declared.instances.Instance.{Instance}
use Rattle.eu_model.specs.declared.commands.Reply.{Reply}
use Rattle.eu_model.specs.declared.commands.Reply.TheVariants.{Registered, Done, NotFound, Stale, Conflict}
use Rattle.eu_model.specs.Machine.{Record, new_record, renewed}

-- ---- which status an instance is given

-- the place of a status among the five, by which they are told apart
abbrev pub place_of : Status → ℕ
place_of Up = 0
place_of Down = 1
place_of Starting = 2
place_of OutOfService = 3
place_of Unknown = 4

abbrev pub is_status : Status → Status → Bool
is_status a b = place_of a == place_of b

-- an instance whose own status is UP or OUT_OF_SERVICE may be given another; any other status is its own word (`DownOrStartingRule` in
-- Eureka)
abbrev pub may_be_overridden : Status → Bool
may_be_overridden Up = true
may_be_overridden OutOfService = true
may_be_overridden Down = false
may_be_overridden Starting = false
may_be_overridden Unknown = false

-- for a client, a held status that is UP or OUT_OF_SERVICE stands before the own one (`LeaseExistsRule`)
abbrev pub held_or_own : Option Status → Bool → Status → Status
held_or_own (Some held) false own = if may_be_overridden held then held else own
held_or_own (Some held) true own = own
held_or_own None replicated own = own

-- The override rule, the first that holds: an own status that is neither UP nor OUT_OF_SERVICE; the row of the id in the
-- override table (`OverrideExistsRule`); a held status that is UP or OUT_OF_SERVICE, if the request isn't replicated; the own status
-- (`FirstMatchWinsCompositeRule`)
abbrev pub rule : Status → Option Status → Option Status → Bool → Status
rule own row held replicated = if may_be_overridden own then unwrap_or row (held_or_own held replicated own) else own

-- ---- what a step on one lease leaves at its key and its id: a definition for each command

-- the lease at the key and the override row of its id, the number expected, whether a renewal is counted, the reply
pub record Change (R : Type 0) : Type 0 where
  pub lease : Option R
  pub row : Option Status
  pub expected : ℕ
  pub counted : Bool
  pub reply : Reply

-- lease, row and number expected as they are given, and no renewal counted
abbrev pub uncounted : {R : Type 0} → Option R → Option Status → ℕ → Reply → Change R
uncounted lease row expected reply = record { lease = lease; row = row; expected = expected; counted = false; reply = reply }

-- ---- a registration (`AbstractInstanceRegistry.register` in Eureka)

-- the held instance stays where its stamp is strictly greater, but its duration is the newcomer's
abbrev pub newer : Option Instance → Instance → Instance
newer None n = n
newer (Some h) n = if nat_lt n.last_dirty h.last_dirty then record h { secs = n.secs } else n

-- the row that an overridden status tells: none, where it is UNKNOWN
abbrev pub row_of : Status → Option Status
row_of overridden = if is_status overridden Unknown then None else Some overridden

-- where the id has no row, it is the one that is told
abbrev pub row_after : Option Status → Status → Option Status
row_after (Some row) overridden = Some row
row_after None overridden = row_of overridden

-- where there is a row, it is the overridden status
abbrev pub under_row : Option Status → Instance → Instance
under_row None i = i
under_row (Some row) i = record i { overridden = row }

-- the instance that a registration leaves: its status is the rule's, by the status that was held
abbrev pub joined : Option Instance → Option Status → Instance → Bool → Instance
joined held row n replicated =
    let chosen = newer held n in
    let new_row = row_after row chosen.overridden in
    let i = under_row new_row chosen in
    record i { status = rule i.status new_row (option_map (λ h. h.status) held) replicated }

-- the first moment at which the instance was up: kept, or set now; 0 means that it never was
abbrev pub up_after : ℕ → Status → ℕ → ℕ
up_after up status t = if (up == 0) && is_status status Up then t else up

-- a client that comes is one more expected, but none is where none was
abbrev pub one_more : Bool → ℕ → ℕ
one_more comes expected = if comes && nat_lt 0 expected then expected + 1 else expected

abbrev pub register : Option Record → Option Status → ℕ → Instance → Bool → ℕ → Change Record
register held row expected n replicated t =
    let before = option_map (λ r. r.instance) held in
    let i = joined before row n replicated in
    record {
      lease = Some (new_record i (up_after (option_map_or (λ r. r.up) held 0) i.status t) t);
      row = row_after row (newer before n).overridden;
      expected = one_more (not (is_some held)) expected;
      counted = false;
      reply = Registered (not (is_some held));
    }

-- ---- a renewal (`AbstractInstanceRegistry.renew`, and `InstanceResource.renewLease` for the stamps)

-- the reply to a renewal with this stamp: a sender with a greater one is to register; a peer with a smaller one is told
-- the instance; else all is well
abbrev pub renew_reply : Option ℕ → Instance → Bool → Reply
renew_reply None i replicated = Done
renew_reply (Some d) i replicated =
    if nat_lt i.last_dirty d then Stale else (if nat_lt d i.last_dirty && replicated then Conflict i else Done)

-- the row that a peer's stale renewal brings: its overridden status, unless it is UNKNOWN or the row already
abbrev pub row_of_peer : Reply → Bool → Option Status → Option Status → Option Status
row_of_peer Stale true (Some overridden) row =
    if is_status overridden Unknown || option_map_or (is_status overridden) row false then None else Some overridden
row_of_peer _ _ _ _ = None

-- a renewal that gives this status
abbrev pub renew_as : Record → Option Status → ℕ → Option ℕ → Option Status → Bool → ℕ → Status → Change Record
renew_as r row expected last_dirty overridden replicated t status =
    let i = record r.instance { status = status } in
    let reply = renew_reply last_dirty i replicated in
    let new_row = row_of_peer reply replicated overridden row in
    record {
      lease = Some (record (renewed r t) { instance = under_row new_row i });
      row = option_or new_row row;
      expected = expected;
      counted = true;
      reply = reply;
    }

-- a lease whose status would be UNKNOWN isn't renewed
abbrev pub renew : Option Record → Option Status → ℕ → Option ℕ → Option Status → Bool → ℕ → Change Record
renew None row expected last_dirty overridden replicated t = uncounted None row expected NotFound
renew (Some r) row expected last_dirty overridden replicated t =
    let status = rule r.instance.status row (Some r.instance.status) replicated in
    if is_status status Unknown then uncounted (Some r) row expected NotFound
    else renew_as r row expected last_dirty overridden replicated t status

-- ---- a status that is set (`AbstractInstanceRegistry.statusUpdate`), or that is unset (`deleteStatusOverride`): the lease is renewed, and
-- not counted. One that isn't visible is not found, and stays

-- a greater stamp replaces the one that is held
abbrev pub stamped : Option ℕ → Instance → Instance
stamped None i = i
stamped (Some d) i = if nat_lt i.last_dirty d then record i { last_dirty = d } else i

-- a lease that is renewed now with its instance in a status that is set
abbrev pub in_status : Record → Status → Option ℕ → ℕ → Record
in_status r status last_dirty t = record (renewed r t) {
  instance = stamped last_dirty (record r.instance { status = status; overridden = status });
  up = up_after r.up status t;
}

-- a lease that is renewed now with nothing that overrides: its instance is in the suggested status, or UNKNOWN
abbrev pub out_of_override : Record → Option Status → Option ℕ → ℕ → Record
out_of_override r suggested last_dirty t = record (renewed r t) {
  instance = stamped last_dirty (record r.instance { status = unwrap_or suggested Unknown; overridden = Unknown });
}

-- another status than the instance has becomes its own and its overridden one, and the row of its id
abbrev pub set_status : Option Record → Option Record → Option Status → ℕ → Status → Option ℕ → ℕ → Change Record
set_status None held row expected status last_dirty t = uncounted held row expected NotFound
set_status (Some r) held row expected status last_dirty t =
    if is_status r.instance.status status then uncounted (Some (renewed r t)) row expected Done
    else uncounted (Some (in_status r status last_dirty t)) (Some status) expected Done

-- the row of the id goes, if there is one, and then nothing overrides
abbrev pub unset_status : Option Record → Option Record → Option Status → ℕ → Option Status → Option ℕ → ℕ → Change Record
unset_status None held row expected suggested last_dirty t = uncounted held row expected NotFound
unset_status (Some r) held None expected suggested last_dirty t = uncounted (Some (renewed r t)) None expected Done
unset_status (Some r) held (Some row) expected suggested last_dirty t = uncounted (Some (out_of_override r suggested last_dirty t)) None expected Done

-- ---- an adoption (`PeerEurekaNode.syncInstancesIfTimestampDiffers`): the row that the overridden status tells replaces the id's, and the
-- held instance is under it. Then the instance is registered as by a peer

abbrev pub overridden_by : Option Status → Record → Record
overridden_by row r = record r { instance = under_row row r.instance }

abbrev pub adopt : Option Record → Option Status → ℕ → Instance → ℕ → Change Record
adopt held row expected n t =
    register (option_map (overridden_by (row_of n.overridden)) held) (option_or (row_of n.overridden) row) expected n true t

-- ---- a cancel (`AbstractInstanceRegistry.internalCancel`): the row of the id goes, also where no lease is held; a client that leaves is
-- one less expected

abbrev pub cancel : Option Record → ℕ → Change Record
cancel None expected = uncounted None None expected NotFound
cancel (Some r) expected = uncounted None None (expected - 1) Done
