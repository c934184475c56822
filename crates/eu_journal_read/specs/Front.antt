-- The base and the entries of a journal, as far as they were read
use Rattle.std.specs.Prelude.{List}
use Rattle.eu_model.specs.declared.commands.Entry.{Entry}
use Rattle.eu_journal_read.specs.Drafts.{Draft}

pub record Front : Type 0 where
  pub base : Draft
  pub entries : List Entry
