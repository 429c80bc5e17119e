-- The tests in a row are those of the definition.
use Rattle.cell.proofs.Fits.{fits-are}
use Rattle.cell.proofs.fields.Fields.fits.Goals as goal

pub returns : goal.returns
returns c = fits-are c.args.self
