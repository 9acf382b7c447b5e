mod GreedyVectors
mod OverlapVectors
pub mod BucketLaws
pub mod ClassPackageLaws
pub mod ComputedRowsLaws
pub mod EntryLaws
pub mod FitsLaws
pub mod FreeLaws
pub mod HeadLaws
pub mod LayoutVectors
pub mod ListLaws
pub mod LocalityLaws
pub mod LookLaws
pub mod OverlapLaws
pub mod OverlapNone
pub mod PartLaws
pub mod RisingLaws
pub mod SectionLaws
pub mod ServesLaws
pub mod SlotLaws
pub mod SortedLaws
pub mod StandsLaws
pub mod StringsLaws
pub mod TextLaws
pub mod UsualLaws
pub mod Validity
pub mod VectorLaws
pub mod Vectors
