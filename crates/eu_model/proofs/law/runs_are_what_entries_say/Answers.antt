use Rattle.eu_model.proofs.HistoryLemmas.{leases_are_as_said, numbers_are_as_said, updates_are_as_said}
use Rattle.eu_model.proofs.EvictionRunLemmas.{due_are_as_said}
use Rattle.eu_model.proofs.law.runs_are_what_entries_say.Goals as goal

pub returns : goal.returns
returns c = record { leases = leases_are_as_said; numbers = numbers_are_as_said; updates = updates_are_as_said; due = due_are_as_said }
