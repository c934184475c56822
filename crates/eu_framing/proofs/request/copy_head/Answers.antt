use Rattle.eu_framing.proofs.RequestLemmas.{method_text}
use Rattle.eu_framing.proofs.request.copy_head.Goals as goal

pub text_of-requires : goal.text_of-requires
text_of-requires c = rw (c.of.ensures, c.requires.head.1.method) (method_text _ c.requires.head.1.reads.0.method)
