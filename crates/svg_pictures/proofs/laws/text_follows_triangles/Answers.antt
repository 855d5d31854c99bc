use Rattle.svg_pictures.proofs.OnePicture.{text_follows}
use Rattle.svg_pictures.proofs.laws.text_follows_triangles.Goals as goal

pub returns : goal.returns
returns c = text_follows
