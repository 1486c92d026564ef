-- Laws of the definitions in specs/.
pub mod KeyLaws
pub mod ValueLaws
pub mod OrderLaws
pub mod StrictLaws
pub mod PlaceLaws
