pub mod DescribeText
pub mod InfoText
pub mod NameRefusals
pub mod RefusalText
