pub mod RankCall
pub mod UnrankCall
