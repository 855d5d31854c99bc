mod WholeTree
mod RightVerdicts
