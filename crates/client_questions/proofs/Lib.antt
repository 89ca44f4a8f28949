mod OptionWords
mod Tables
