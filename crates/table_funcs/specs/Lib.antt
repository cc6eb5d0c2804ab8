pub mod FuncWords
