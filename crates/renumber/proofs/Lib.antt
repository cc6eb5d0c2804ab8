pub mod RenumberLaws
