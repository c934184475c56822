-- The keys that are within a limit
use Rattle.std.specs.Prelude.{Bool}
use Rattle.eu_base.specs.declared.names.Key.{Key}
use Rattle.eu_store.specs.declared.directory.Limit.{Limit}
use Rattle.eu_store.specs.declared.directory.Limit.TheVariants.{Below, Before, Through}
use Rattle.eu_store.specs.Order.{is_before, is_below, is_through}

abbrev pub within : Limit → Key → Bool
within (Below k) = is_below k.now
within (Before app) = is_before app.now
within (Through app) = is_through app.now
