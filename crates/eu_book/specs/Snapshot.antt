-- The view that is made of what a query saw
use Rattle.eu_book.specs.declared.snapshot.ViewSnapshot.{ViewSnapshot}
use Rattle.eu_book.specs.declared.snapshot.ViewSnapshot.TheVariants as taken
use Rattle.eu_model.specs.declared.views.View.{View}
use Rattle.eu_model.specs.declared.views.View.TheVariants as seen

abbrev pub view_of : ViewSnapshot → View
view_of (taken.View v) = v
view_of (taken.All leases) = seen.All leases
