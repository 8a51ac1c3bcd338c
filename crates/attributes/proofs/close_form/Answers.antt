-- `attributes::close_form` meets its contract: it reads the numbers of the innermost form, and CacheWrite does the rest.
use Rattle.attributes.proofs.Closing.{form-absent, closes}
use Rattle.attributes.proofs.close_form.Goals as goal

pub keep_open-kept-requires-clause-absent : goal.keep_open-kept-requires-clause-absent
keep_open-kept-requires-clause-absent c = form-absent _ c.args.m _ c.form_place-f.ensures _ _ c.requires

pub returns-clause-follows : goal.returns-clause-follows
returns-clause-follows c = closes _ c.args.m _ c.form_place-f.ensures _ _ _ _ c.requires c.keep_open-kept.ensures.written
