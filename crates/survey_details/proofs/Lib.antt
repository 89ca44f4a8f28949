pub mod MasterTexts
