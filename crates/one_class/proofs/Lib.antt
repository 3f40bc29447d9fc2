pub mod OneClass
