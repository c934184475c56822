use Rattle.eu_http.proofs.text.ready_text.Goals as goal

pub returns-in-Nothing : goal.returns-in-Nothing
returns-in-Nothing c = rw (c.in-Nothing.is, c.if-close.true) c.last_text.ensures

pub returns-in-Nothing-2 : goal.returns-in-Nothing-2
returns-in-Nothing-2 c = rw (c.in-Nothing-2.is, c.if-close.false) c.bare_text.ensures
