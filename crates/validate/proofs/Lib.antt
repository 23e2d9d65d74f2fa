pub mod Prefix
pub mod RuleGrammar
pub mod RuleLaws
pub mod Runs
