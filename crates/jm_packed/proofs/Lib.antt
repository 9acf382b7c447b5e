pub mod PackedLaws
