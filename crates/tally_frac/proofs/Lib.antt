pub mod FractionLaws
pub mod RankLaws
