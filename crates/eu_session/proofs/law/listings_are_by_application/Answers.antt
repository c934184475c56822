use Rattle.eu_session.proofs.ListingLemmas.{opened_are_by_application, resumed_are_by_application}
use Rattle.eu_session.proofs.law.listings_are_by_application.Goals as goal

pub returns : goal.returns
returns c = record { opened = opened_are_by_application; resumed = resumed_are_by_application }
