pub mod ReferenceAngle
pub mod Near
pub mod Angles
pub mod SineTables
