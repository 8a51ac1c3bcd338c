-- `opens::plant` meets its contract: both words stand behind the forms.
use Rattle.opens.proofs.Looks.{plants}
use Rattle.opens.proofs.plant.Goals as goal

pub returns : goal.returns
returns c = search plants
