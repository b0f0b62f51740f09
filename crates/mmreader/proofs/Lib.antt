pub mod DatabaseLaws
