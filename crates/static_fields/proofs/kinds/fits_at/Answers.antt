use Rattle.static_fields.proofs.KindLaws.{fits_laws as laws}
use Rattle.static_fields.specs.Stages.{fits_at}
use Rattle.static_fields.proofs.kinds.fits_at.Goals as goal

pub returns-in_err-kind : goal.returns-in_err-kind
unfolding fits_at
returns-in_err-kind c = search laws

pub returns-in_err-fits : goal.returns-in_err-fits
unfolding fits_at
returns-in_err-fits c = search laws

pub returns : goal.returns
unfolding fits_at
returns c = search laws
