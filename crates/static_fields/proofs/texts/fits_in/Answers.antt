use Rattle.static_fields.proofs.TextLaws.{told_laws as laws}
use Rattle.static_fields.proofs.texts.fits_in.Goals as goal

pub returns-in_err-start : goal.returns-in_err-start
returns-in_err-start c = search laws

pub returns : goal.returns
returns c = search laws
