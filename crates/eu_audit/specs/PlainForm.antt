-- Which plain data is a plain form of a server: each thing within its limit, once, and in its place
use Rattle.std.specs.Prelude.{◌≡◌, ◌+◌, ◌^◌, Bool, true, ◌&&◌, List, length, nat_le}
use Rattle.std.specs.List.{list_all}
use Rattle.std.specs.FinMap.{is_sorted}
use Rattle.eu_base.specs.Values.{name_cmp, key_cmp}
use Rattle.eu_base.specs.Limits.{last_moment, most_expected, most_leases, most_peers, most_renewals}
use Rattle.eu_model.specs.declared.commands.Entry.{Entry}
use Rattle.eu_model.specs.declared.states.State.{State}
use Rattle.eu_model.specs.declared.views.Listed.{Listed}
use Rattle.eu_model.specs.Machine.{duration}
use Rattle.eu_model.specs.State.{server_of_state}
use Rattle.eu_model.specs.Server.{Runs}
use Rattle.eu_model.specs.View.{by_key}
use Rattle.eu_audit_queue.specs.PlainQueue.{is_plain_queue}

-- a lease's moments are 2^62 ms at most, and its last update one duration more
abbrev pub is_plain_lease : Listed → Bool
is_plain_lease l =
    nat_le l.times.registered last_moment && nat_le l.times.updated (last_moment + duration l.instance) && nat_le l.times.up last_moment

-- the counts are no more than may be
abbrev pub are_plain_counts : State → Bool
are_plain_counts s =
    nat_le (length s.leases) most_leases && nat_le s.expected most_expected && nat_le s.last most_renewals && nat_le s.since most_renewals
    && nat_le (length s.queues) most_peers

-- the keys of the leases strictly rise, and so do the ids of the rows
abbrev pub is_in_order : State → Bool
is_in_order s = is_sorted key_cmp (by_key s.leases) && is_sorted name_cmp s.overrides

abbrev pub has_plain_parts : State → Bool
has_plain_parts s = are_plain_counts s && list_all is_plain_lease s.leases && list_all is_plain_queue s.queues

abbrev pub is_plain_form : State → Bool
is_plain_form s = has_plain_parts s && is_in_order s

-- The entries are a run of the lease machine, from a plain form to a plain form
pub record IsRun (base : State) (entries : List Entry) (end : State) : Type 0 where
  pub begins : is_plain_form base ≡ true
  pub ends : is_plain_form end ≡ true
  pub runs : Runs (server_of_state base) entries (server_of_state end)
