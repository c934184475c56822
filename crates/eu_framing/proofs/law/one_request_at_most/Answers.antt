use Rattle.eu_framing.proofs.LawLemmas.{one_message, whole_is_faultless, end_is_alone, cut_has_none, one_fault}
use Rattle.eu_framing.proofs.law.one_request_at_most.Goals as goal

pub returns : goal.returns
returns c = record { one = one_message; whole = whole_is_faultless; end = end_is_alone; cut = cut_has_none; fault = one_fault }
